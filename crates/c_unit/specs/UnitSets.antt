-- Sets of terminals of the grammar of files (C11 6.9).

use Rattle.std.specs.Prelude.{ℕ, List, [], ◌∷◌, ◌++◌, map}
use Rattle.c_lexer.specs.declared.keyword.TheConstants.{KEY_ALIGNAS, KEY_AUTO, KEY_EXTERN}
use Rattle.c_lexer.specs.declared.keyword.TheConstants.{KEY_INLINE, KEY_NORETURN, KEY_REGISTER}
use Rattle.c_lexer.specs.declared.keyword.TheConstants.{KEY_STATIC, KEY_STATIC_ASSERT}
use Rattle.c_lexer.specs.declared.keyword.TheConstants.{KEY_THREAD_LOCAL, KEY_TYPEDEF}
use Rattle.c_reading.specs.Terminals.{key}
use Rattle.c_syntax.specs.Sets.{a_type}

-- What begins a declaration and no type name (6.7).
abbrev pub a_declaration_word : List ℕ
a_declaration_word = map key (KEY_STATIC_ASSERT ∷ KEY_TYPEDEF ∷ KEY_EXTERN ∷ KEY_STATIC ∷
    KEY_THREAD_LOCAL ∷ KEY_AUTO ∷ KEY_REGISTER ∷ KEY_INLINE ∷ KEY_NORETURN ∷ KEY_ALIGNAS ∷ [])

-- What begins an external declaration.
abbrev pub begins_external : List ℕ
begins_external = a_type ++ a_declaration_word
