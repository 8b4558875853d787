-- Sets of terminals of the grammar of expressions (C11 6.5).

use Rattle.std.specs.Prelude.{ℕ, List, [], ◌∷◌, ◌++◌, map}
use Rattle.c_lexer.specs.declared.keyword.TheConstants.{KEY_ATOMIC, KEY_STRUCT, KEY_UNION}
use Rattle.c_lexer.specs.declared.keyword.TheConstants.{KEY_ENUM, KEY_CONST, KEY_RESTRICT}
use Rattle.c_lexer.specs.declared.keyword.TheConstants.{KEY_VOLATILE, KEY_SIZEOF, KEY_ALIGNOF}
use Rattle.c_lexer.specs.declared.mark.TheConstants.{MARK_AMPERSAND, MARK_STAR, MARK_PLUS}
use Rattle.c_lexer.specs.declared.mark.TheConstants.{MARK_MINUS, MARK_TILDE, MARK_EXCLAMATION}
use Rattle.c_lexer.specs.declared.mark.TheConstants.{MARK_LEFT_BRACKET, MARK_LEFT_PAREN}
use Rattle.c_lexer.specs.declared.mark.TheConstants.{MARK_LEFT_BRACE}
use Rattle.c_lexer.specs.declared.mark.TheConstants.{MARK_DOT, MARK_ARROW}
use Rattle.c_reading.specs.Terminals.{WORD, TYPEDEF_NAME, NUMBER, CHAR, TEXT, mark, key}
use Rattle.c_syntax.specs.declared.forms.AssignForm.{AssignForm}
use Rattle.c_syntax.specs.declared.forms.AssignForm.TheVariants.{Whole, Constant, Unstarred}
use Rattle.c_syntax.specs.declared.forms.AssignForm.TheVariants.{Bare, Behind}
use Rattle.c_tree.specs.Fits.{type_specifiers, assignment_operators, binary_operators, steps}

-- A name that is no typedef name, and any name: of a member it does not matter (6.2.3).
abbrev pub a_name : List ℕ
a_name = WORD ∷ []

abbrev pub any_name : List ℕ
any_name = WORD ∷ TYPEDEF_NAME ∷ []

abbrev pub a_typedef_name : List ℕ
a_typedef_name = TYPEDEF_NAME ∷ []

-- Constants that are no string literals (6.4.4).
abbrev pub a_constant : List ℕ
a_constant = NUMBER ∷ CHAR ∷ []

-- `++` and `--`.
abbrev pub a_step : List ℕ
a_step = map mark steps

-- Unary operators behind which a cast may stand (6.5.3).
abbrev pub unary_operators : List ℕ
unary_operators =
    MARK_AMPERSAND ∷ MARK_STAR ∷ MARK_PLUS ∷ MARK_MINUS ∷ MARK_TILDE ∷ MARK_EXCLAMATION ∷ []

abbrev pub a_unary : List ℕ
a_unary = map mark unary_operators

-- Those but for `*`.
abbrev pub other_unary : List ℕ
other_unary =
    map mark
    (MARK_AMPERSAND ∷ MARK_PLUS ∷ MARK_MINUS ∷ MARK_TILDE ∷ MARK_EXCLAMATION ∷ [])

abbrev pub a_binary : List ℕ
a_binary = map mark binary_operators

abbrev pub an_assignment : List ℕ
an_assignment = map mark assignment_operators

abbrev pub a_basic_type : List ℕ
a_basic_type = map key type_specifiers

-- Qualifiers but for `_Atomic` (6.7.3).
abbrev pub a_plain_qualifier : List ℕ
a_plain_qualifier = map key (KEY_CONST ∷ KEY_RESTRICT ∷ KEY_VOLATILE ∷ [])

-- `struct` and `union` (6.7.2.1).
abbrev pub a_record : List ℕ
a_record = map key (KEY_STRUCT ∷ KEY_UNION ∷ [])

-- Type specifiers but for typedef names and `_Atomic` (6.7.2).
abbrev pub begins_specifier : List ℕ
begins_specifier = a_basic_type ++ a_record ++ key KEY_ENUM ∷ []

-- What begins a type name (6.7.7), but for typedef names.
abbrev pub a_type_word : List ℕ
a_type_word = key KEY_ATOMIC ∷ begins_specifier ++ a_plain_qualifier

abbrev pub a_type : List ℕ
a_type = a_typedef_name ++ a_type_word

-- Marks that begin a suffix, but for `++` and `--` (6.5.2).
abbrev pub suffix_marks : List ℕ
suffix_marks = MARK_LEFT_BRACKET ∷ MARK_LEFT_PAREN ∷ MARK_DOT ∷ MARK_ARROW ∷ []

-- What begins a suffix.
abbrev pub a_suffix : List ℕ
a_suffix = map mark (suffix_marks ++ steps)

-- ---- What begins an assignment expression (6.5.16)

abbrev pub begins_sized : List ℕ
begins_sized = a_step ++ (key KEY_SIZEOF ∷ []) ++ (key KEY_ALIGNOF ∷ [])

abbrev pub begins_primary : List ℕ
begins_primary = a_name ++ a_constant ++ (TEXT ∷ [])

abbrev pub begins_assign : AssignForm → List ℕ
begins_assign Whole = a_unary ++ begins_sized ++ (mark MARK_LEFT_PAREN ∷ []) ++ begins_primary
begins_assign Constant = a_unary ++ begins_sized ++ (mark MARK_LEFT_PAREN ∷ []) ++ begins_primary
begins_assign Unstarred =
    other_unary ++ begins_sized ++ (mark MARK_LEFT_PAREN ∷ []) ++ begins_primary
begins_assign Bare = other_unary ++ begins_sized ++ begins_primary
begins_assign (Behind star) =
    a_unary ++ begins_sized ++ (mark MARK_LEFT_PAREN ∷ []) ++ begins_primary

-- What begins an item of an initialiser list (6.7.9).
abbrev pub an_item : List ℕ
an_item =
    mark MARK_LEFT_BRACKET ∷ mark MARK_DOT ∷ mark MARK_LEFT_BRACE ∷ begins_assign Whole
