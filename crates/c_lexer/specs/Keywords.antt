-- Keywords (C11 6.4.1).

use Rattle.std.specs.Prelude.{ℕ, List, [], ◌∷◌}
use Rattle.std.specs.List.{Contains}
use Rattle.c_lexer.specs.declared.keyword.TheConstants.{KEY_AUTO, KEY_BREAK, KEY_CASE, KEY_CHAR}
use Rattle.c_lexer.specs.declared.keyword.TheConstants.{KEY_CONST, KEY_CONTINUE, KEY_DEFAULT}
use Rattle.c_lexer.specs.declared.keyword.TheConstants.{KEY_DO, KEY_DOUBLE, KEY_ELSE, KEY_ENUM}
use Rattle.c_lexer.specs.declared.keyword.TheConstants.{KEY_EXTERN, KEY_FLOAT, KEY_FOR, KEY_GOTO}
use Rattle.c_lexer.specs.declared.keyword.TheConstants.{KEY_IF, KEY_INLINE, KEY_INT, KEY_LONG}
use Rattle.c_lexer.specs.declared.keyword.TheConstants.{KEY_REGISTER, KEY_RESTRICT, KEY_RETURN}
use Rattle.c_lexer.specs.declared.keyword.TheConstants.{KEY_SHORT, KEY_SIGNED, KEY_SIZEOF}
use Rattle.c_lexer.specs.declared.keyword.TheConstants.{KEY_STATIC, KEY_STRUCT, KEY_SWITCH}
use Rattle.c_lexer.specs.declared.keyword.TheConstants.{KEY_TYPEDEF, KEY_UNION, KEY_UNSIGNED}
use Rattle.c_lexer.specs.declared.keyword.TheConstants.{KEY_VOID, KEY_VOLATILE, KEY_WHILE}
use Rattle.c_lexer.specs.declared.keyword.TheConstants.{KEY_ALIGNAS, KEY_ALIGNOF, KEY_ATOMIC}
use Rattle.c_lexer.specs.declared.keyword.TheConstants.{KEY_BOOL, KEY_COMPLEX, KEY_GENERIC}
use Rattle.c_lexer.specs.declared.keyword.TheConstants.{KEY_IMAGINARY, KEY_NORETURN}
use Rattle.c_lexer.specs.declared.keyword.TheConstants.{KEY_STATIC_ASSERT, KEY_THREAD_LOCAL}
use Rattle.c_lexer.specs.declared.keyword.TheConstants.{KEY_BUILTIN_VA_LIST, KEY_FLOAT32}
use Rattle.c_lexer.specs.declared.keyword.TheConstants.{KEY_FLOAT64, KEY_FLOAT128, KEY_FLOAT32X}
use Rattle.c_lexer.specs.declared.keyword.TheConstants.{KEY_FLOAT64X, KEY_ATTRIBUTE, KEY_EXTENSION}
use Rattle.c_lexer.specs.declared.keyword.TheConstants.{KEY_ASM, KEY_INT128}
use Rattle.c_lexer.specs.Entries.{Entry, spelling, alternative, numbers_of}

-- The keywords of C11, and after `_Thread_local` ours: some that system headers use. A keyword's
-- number is its position in this list, from 0, and an alternative spelling has the number of the
-- keyword that it stands for (`laws::law_names`).
unfoldable pub keywords : List Entry
keywords =
    spelling "auto" KEY_AUTO ∷ spelling "break" KEY_BREAK ∷ spelling "case" KEY_CASE ∷
    spelling "char" KEY_CHAR ∷ spelling "const" KEY_CONST ∷ spelling "continue" KEY_CONTINUE ∷
    spelling "default" KEY_DEFAULT ∷ spelling "do" KEY_DO ∷ spelling "double" KEY_DOUBLE ∷
    spelling "else" KEY_ELSE ∷ spelling "enum" KEY_ENUM ∷ spelling "extern" KEY_EXTERN ∷
    spelling "float" KEY_FLOAT ∷ spelling "for" KEY_FOR ∷ spelling "goto" KEY_GOTO ∷
    spelling "if" KEY_IF ∷ spelling "inline" KEY_INLINE ∷ spelling "int" KEY_INT ∷
    spelling "long" KEY_LONG ∷ spelling "register" KEY_REGISTER ∷
    spelling "restrict" KEY_RESTRICT ∷ spelling "return" KEY_RETURN ∷
    spelling "short" KEY_SHORT ∷ spelling "signed" KEY_SIGNED ∷ spelling "sizeof" KEY_SIZEOF ∷
    spelling "static" KEY_STATIC ∷ spelling "struct" KEY_STRUCT ∷ spelling "switch" KEY_SWITCH ∷
    spelling "typedef" KEY_TYPEDEF ∷ spelling "union" KEY_UNION ∷
    spelling "unsigned" KEY_UNSIGNED ∷ spelling "void" KEY_VOID ∷
    spelling "volatile" KEY_VOLATILE ∷ spelling "while" KEY_WHILE ∷
    spelling "_Alignas" KEY_ALIGNAS ∷ spelling "_Alignof" KEY_ALIGNOF ∷
    spelling "_Atomic" KEY_ATOMIC ∷ spelling "_Bool" KEY_BOOL ∷
    spelling "_Complex" KEY_COMPLEX ∷ spelling "_Generic" KEY_GENERIC ∷
    spelling "_Imaginary" KEY_IMAGINARY ∷ spelling "_Noreturn" KEY_NORETURN ∷
    spelling "_Static_assert" KEY_STATIC_ASSERT ∷ spelling "_Thread_local" KEY_THREAD_LOCAL ∷
    alternative "__inline" KEY_INLINE ∷ alternative "__inline__" KEY_INLINE ∷
    alternative "__restrict" KEY_RESTRICT ∷ alternative "__restrict__" KEY_RESTRICT ∷
    alternative "__const" KEY_CONST ∷ alternative "__volatile__" KEY_VOLATILE ∷
    alternative "__signed__" KEY_SIGNED ∷ spelling "__builtin_va_list" KEY_BUILTIN_VA_LIST ∷
    spelling "_Float32" KEY_FLOAT32 ∷ spelling "_Float64" KEY_FLOAT64 ∷
    spelling "_Float128" KEY_FLOAT128 ∷ spelling "_Float32x" KEY_FLOAT32X ∷
    spelling "_Float64x" KEY_FLOAT64X ∷ spelling "__attribute__" KEY_ATTRIBUTE ∷
    spelling "__extension__" KEY_EXTENSION ∷ spelling "__asm__" KEY_ASM ∷
    alternative "__const__" KEY_CONST ∷ alternative "__volatile" KEY_VOLATILE ∷
    alternative "__signed" KEY_SIGNED ∷ alternative "__complex__" KEY_COMPLEX ∷
    alternative "__alignof__" KEY_ALIGNOF ∷ spelling "__int128" KEY_INT128 ∷ []

-- The text spells the keyword with the number.
abbrev pub IsKeyword : List ℕ → ℕ → Type 0
IsKeyword text number = Contains (numbers_of keywords) (text, number)
