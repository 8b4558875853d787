-- Sets of terminals of the grammar of declarations (C11 6.7).

use Rattle.std.specs.Prelude.{ℕ, Bool, true, false, List, [], ◌∷◌, ◌++◌, map}
use Rattle.c_lexer.specs.declared.keyword.TheConstants.{KEY_ALIGNAS, KEY_ATOMIC, KEY_AUTO}
use Rattle.c_lexer.specs.declared.keyword.TheConstants.{KEY_EXTERN}
use Rattle.c_lexer.specs.declared.keyword.TheConstants.{KEY_REGISTER, KEY_STATIC}
use Rattle.c_lexer.specs.declared.keyword.TheConstants.{KEY_THREAD_LOCAL, KEY_TYPEDEF}
use Rattle.c_lexer.specs.declared.mark.TheConstants.{MARK_LEFT_BRACKET, MARK_LEFT_PAREN}
use Rattle.c_lexer.specs.declared.mark.TheConstants.{MARK_RIGHT_PAREN, MARK_DOT}
use Rattle.c_reading.specs.Terminals.{mark, key}
use Rattle.c_tree.specs.Fits.{function_specifiers}
use Rattle.c_syntax.specs.Sets.{any_name, a_typedef_name, a_plain_qualifier, begins_specifier}
use Rattle.c_specifiers.specs.declared.forms.Place.{Place}
use Rattle.c_specifiers.specs.declared.forms.Place.TheVariants.{Ordinary, Definition}
use Rattle.c_specifiers.specs.declared.forms.Place.TheVariants.{Parameter, Member, Nameless}

-- ---- Specifiers

-- Storage-class specifiers but for `typedef` (6.7.1).
abbrev pub a_storage_class : List ℕ
a_storage_class =
    map key (KEY_EXTERN ∷ KEY_STATIC ∷ KEY_THREAD_LOCAL ∷ KEY_AUTO ∷ KEY_REGISTER ∷ [])

abbrev pub a_function_specifier : List ℕ
a_function_specifier = map key function_specifiers

abbrev pub a_qualifier : List ℕ
a_qualifier = a_plain_qualifier ++ key KEY_ATOMIC ∷ []

-- Specifiers at the place that are no type specifiers, but for `_Atomic`.
abbrev pub begins_modifier : Place → List ℕ
begins_modifier Ordinary =
    key KEY_TYPEDEF ∷ a_storage_class ++ a_function_specifier ++ key KEY_ALIGNAS ∷ a_plain_qualifier
begins_modifier Definition =
    a_storage_class ++ a_function_specifier ++ key KEY_ALIGNAS ∷ a_plain_qualifier
begins_modifier Parameter =
    key KEY_REGISTER ∷ a_function_specifier ++ key KEY_ALIGNAS ∷ a_plain_qualifier
begins_modifier Member = key KEY_ALIGNAS ∷ a_plain_qualifier
begins_modifier Nameless = a_plain_qualifier

-- Specifiers at the place behind a type specifier.
abbrev pub begins_word : Place → List ℕ
begins_word place = key KEY_ATOMIC ∷ begins_specifier ++ begins_modifier place

-- Specifiers at the place.
abbrev pub begins_specifiers : Place → List ℕ
begins_specifiers place =
    a_typedef_name ++ key KEY_ATOMIC ∷ begins_specifier ++ begins_modifier place

-- ---- Declarators

-- What begins a suffix (6.7.6).
abbrev pub begins_suffix : List ℕ
begins_suffix = mark MARK_LEFT_BRACKET ∷ mark MARK_LEFT_PAREN ∷ []

-- What is no name and begins what stands behind pointers, behind `_Atomic` or not: there no `(`
-- stands (6.7.2.4p4).
abbrev pub begins_unnamed : Bool → List ℕ
begins_unnamed true = mark MARK_LEFT_BRACKET ∷ []
begins_unnamed false = mark MARK_LEFT_PAREN ∷ mark MARK_LEFT_BRACKET ∷ []

abbrev pub begins_either : Bool → List ℕ
begins_either atomic = any_name ++ begins_unnamed atomic

abbrev pub begins_named : Bool → List ℕ
begins_named true = any_name
begins_named false = any_name ++ mark MARK_LEFT_PAREN ∷ []

-- `)`, or what begins a parameter (6.7.6.3).
abbrev pub begins_params : List ℕ
begins_params = mark MARK_RIGHT_PAREN ∷ begins_specifiers Parameter

-- ---- Initialisers

-- What begins a designator (6.7.9).
abbrev pub begins_designator : List ℕ
begins_designator = mark MARK_LEFT_BRACKET ∷ mark MARK_DOT ∷ []
