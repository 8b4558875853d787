-- Sets of terminals of the grammar of statements (C11 6.8).

use Rattle.std.specs.Prelude.{ℕ, List, [], ◌∷◌, ◌++◌, map}
use Rattle.c_lexer.specs.declared.keyword.TheConstants.{KEY_ALIGNAS, KEY_ALIGNOF, KEY_ATOMIC}
use Rattle.c_lexer.specs.declared.keyword.TheConstants.{KEY_AUTO, KEY_BREAK, KEY_CASE, KEY_CONST}
use Rattle.c_lexer.specs.declared.keyword.TheConstants.{KEY_CONTINUE, KEY_DEFAULT, KEY_DO}
use Rattle.c_lexer.specs.declared.keyword.TheConstants.{KEY_ENUM, KEY_EXTERN, KEY_FOR, KEY_GOTO}
use Rattle.c_lexer.specs.declared.keyword.TheConstants.{KEY_IF, KEY_REGISTER, KEY_RESTRICT}
use Rattle.c_lexer.specs.declared.keyword.TheConstants.{KEY_RETURN, KEY_SIZEOF, KEY_STATIC}
use Rattle.c_lexer.specs.declared.keyword.TheConstants.{KEY_STATIC_ASSERT, KEY_STRUCT, KEY_SWITCH}
use Rattle.c_lexer.specs.declared.keyword.TheConstants.{KEY_THREAD_LOCAL, KEY_TYPEDEF, KEY_UNION}
use Rattle.c_lexer.specs.declared.keyword.TheConstants.{KEY_VOLATILE, KEY_WHILE}
use Rattle.c_lexer.specs.declared.mark.TheConstants.{MARK_LEFT_PAREN, MARK_LEFT_BRACE}
use Rattle.c_lexer.specs.declared.mark.TheConstants.{MARK_COLON, MARK_SEMICOLON}
use Rattle.c_reading.specs.Terminals.{TEXT, mark, key}
use Rattle.c_tree.specs.Fits.{function_specifiers}
use Rattle.c_syntax.specs.Sets.{a_name, any_name, a_typedef_name, a_constant, a_step, a_unary}
use Rattle.c_syntax.specs.Sets.{a_basic_type}

abbrev pub a_colon : List ℕ
a_colon = mark MARK_COLON ∷ []

abbrev pub a_left_brace : List ℕ
a_left_brace = mark MARK_LEFT_BRACE ∷ []

abbrev pub an_if : List ℕ
an_if = key KEY_IF ∷ []

-- What begins an expression (6.5).
abbrev pub begins_expr : List ℕ
begins_expr =
    a_unary ++ (a_step ++ (key KEY_SIZEOF ∷ []) ++ key KEY_ALIGNOF ∷ []) ++
    (mark MARK_LEFT_PAREN ∷ []) ++ a_name ++ a_constant ++ TEXT ∷ []

-- What begins an expression, but for names.
abbrev pub expr_mark : List ℕ
expr_mark =
    a_unary ++ (a_step ++ (key KEY_SIZEOF ∷ []) ++ key KEY_ALIGNOF ∷ []) ++
    (mark MARK_LEFT_PAREN ∷ []) ++ a_constant ++ TEXT ∷ []

-- Keywords that begin a declaration, but for `_Static_assert` (6.7).
abbrev pub a_specifier : List ℕ
a_specifier =
    key KEY_ATOMIC ∷ (a_basic_type ++ map key (KEY_STRUCT ∷ KEY_UNION ∷ []) ++ key KEY_ENUM ∷ []) ++
    key KEY_TYPEDEF ∷
    map key (KEY_EXTERN ∷ KEY_STATIC ∷ KEY_THREAD_LOCAL ∷ KEY_AUTO ∷ KEY_REGISTER ∷ []) ++
    map key function_specifiers ++ key KEY_ALIGNAS ∷
    map key (KEY_CONST ∷ KEY_RESTRICT ∷ KEY_VOLATILE ∷ [])

-- What begins a declaration (6.7, 6.7.10).
abbrev pub begins_declaration : List ℕ
begins_declaration = key KEY_STATIC_ASSERT ∷ a_typedef_name ++ a_specifier

-- What begins a statement, but for labels that are names, and expressions (6.8).
abbrev pub a_statement_mark : List ℕ
a_statement_mark =
    key KEY_CASE ∷ key KEY_DEFAULT ∷ mark MARK_SEMICOLON ∷ mark MARK_LEFT_BRACE ∷ key KEY_IF ∷
    key KEY_WHILE ∷ key KEY_DO ∷ key KEY_FOR ∷ key KEY_SWITCH ∷ key KEY_BREAK ∷
    key KEY_CONTINUE ∷ key KEY_GOTO ∷ key KEY_RETURN ∷ []

-- What begins a statement, but for labels that are names.
abbrev pub begins_other : List ℕ
begins_other = a_statement_mark ++ begins_expr

-- What begins a statement, but for typedef names.
abbrev pub begins_plain : List ℕ
begins_plain = a_name ++ begins_other

-- What begins a statement.
abbrev pub begins_statement : List ℕ
begins_statement = any_name ++ begins_other

-- What begins an item of a block (6.8.2).
abbrev pub begins_item : List ℕ
begins_item = begins_statement ++ begins_declaration
