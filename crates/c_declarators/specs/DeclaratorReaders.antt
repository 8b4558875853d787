-- Readers of declarators, parameters and type names (C11 6.7.6, 6.7.7).

use Rattle.std.specs.Prelude.{ℕ, ◌-◌, Bool, true, false, List, [], ◌∷◌, ◌++◌, Option, Some, None}
use Rattle.std.specs.Option.{is_some}
use Rattle.c_lexer.specs.declared.keyword.TheConstants.{KEY_ATOMIC, KEY_STATIC}
use Rattle.c_lexer.specs.declared.mark.TheConstants.{MARK_LEFT_BRACKET, MARK_RIGHT_BRACKET}
use Rattle.c_lexer.specs.declared.mark.TheConstants.{MARK_LEFT_PAREN, MARK_RIGHT_PAREN}
use Rattle.c_lexer.specs.declared.mark.TheConstants.{MARK_COMMA, MARK_ELLIPSIS, MARK_STAR}
use Rattle.c_tree.specs.declared.tree.TypeName.{TypeName}
use Rattle.c_tree.specs.declared.tree.Param.{Param}
use Rattle.c_tree.specs.declared.tree.Suffix.{Suffix}
use Rattle.c_tree.specs.declared.tree.Suffix.TheVariants as suffix
use Rattle.reading.specs.declared.turn.Turn.{Turn}
use Rattle.reading.specs.declared.turn.Turn.TheVariants.{Again, Done}
use Rattle.reading.specs.Readers.{◌>>=◌, pure, many, repeat}
use Rattle.c_reading.specs.Terminals.{mark}
use Rattle.c_syntax.specs.Scoping.{PartReader, terminal_of}
use Rattle.c_syntax.specs.Sets.{a_name, any_name}
use Rattle.c_syntax.specs.Steps.{expect_among, expect_mark, expect_key, where_among, where_mark}
use Rattle.c_syntax.specs.Steps.{where_key}
use Rattle.c_syntax.specs.declared.forms.AssignForm.{AssignForm}
use Rattle.c_syntax.specs.declared.forms.AssignForm.TheVariants.{Behind}
use Rattle.c_specifiers.specs.declared.forms.Place.TheVariants.{Parameter, Nameless}
use Rattle.c_specifiers.specs.declared.forms.Naming.{Naming}
use Rattle.c_specifiers.specs.declared.forms.Naming.TheVariants as naming
use Rattle.c_declarators.specs.declared.forms.Qualified.{Qualified}
use Rattle.c_declarators.specs.declared.forms.Pointing.{Pointing}
use Rattle.c_specifiers.specs.declared.forms.Named.{Named}
use Rattle.c_declarators.specs.declared.forms.NamedParam.{NamedParam}
use Rattle.c_declarators.specs.declared.forms.Params.{Params}
use Rattle.c_syntax.specs.Sets.{a_plain_qualifier}
use Rattle.c_specifiers.specs.DeclarationSets.{a_qualifier}
use Rattle.c_specifiers.specs.DeclarationSets.{begins_suffix, begins_params, begins_unnamed}
use Rattle.c_specifiers.specs.DeclarationSets.{begins_either}
use Rattle.c_specifiers.specs.DeclarationSteps.{expect_word, declare, enter, leave}
use Rattle.c_declarators.specs.DeclaratorForms.{no_qualifiers, with_qualifier, no_pointers}
use Rattle.c_declarators.specs.DeclaratorForms.{with_pointer, named_of, unnamed_of, group_of}
use Rattle.c_declarators.specs.DeclaratorForms.{size_form, array_of, first_param}
use Rattle.c_declarators.specs.DeclaratorForms.{with_param, params_to, params_of, named_param}
use Rattle.c_declarators.specs.DeclaratorForms.{type_name_of}
use Rattle.c_specifiers.specs.Inside.{InsideReaders}
use Rattle.c_specifiers.specs.SpecifierReaders.{specifiers}

-- ---- Qualifiers (6.7.3)

module _ (room : ℕ) where
  unfoldable pub atomic_qualifier : Qualified → PartReader Qualified
  atomic_qualifier qualified = do
    key ← expect_key KEY_ATOMIC room
    pure (with_qualifier qualified key true)

  unfoldable pub plain_qualifier : Qualified → PartReader Qualified
  plain_qualifier qualified = do
    key ← expect_among a_plain_qualifier room
    pure (with_qualifier qualified key false)

  unfoldable pub qualifier : Qualified → PartReader Qualified
  qualifier qualified =
      where_among a_plain_qualifier (plain_qualifier qualified) (atomic_qualifier qualified)

  unfoldable pub all_qualifiers : Qualified → PartReader Qualified
  all_qualifiers = many terminal_of a_qualifier qualifier

  -- One or more.
  unfoldable pub qualifiers : PartReader Qualified
  qualifiers = do
    first ← qualifier no_qualifiers
    all_qualifiers first

  -- ---- Pointers (6.7.6.1)

  unfoldable pub pointer : Pointing → PartReader Pointing
  pointer pointing = do
    star ← expect_mark MARK_STAR room
    qualified ← all_qualifiers no_qualifiers
    pure (with_pointer pointing star qualified)

  unfoldable pub all_pointers : Pointing → PartReader Pointing
  all_pointers = many terminal_of (mark MARK_STAR ∷ []) pointer

  -- One or more.
  unfoldable pub pointers : PartReader Pointing
  pointers = do
    first ← pointer (no_pointers false)
    all_pointers first

module _ (room : ℕ) (inner : InsideReaders) where
  -- ---- Arrays (6.7.6.2)

  unfoldable pub array_end : List ℕ → Option ℕ → ℕ → PartReader Suffix
  array_end words star left = do
    right ← expect_mark MARK_RIGHT_BRACKET (room - 1)
    pure (array_of words None star left right)

  unfoldable pub array_size : AssignForm → List ℕ → ℕ → PartReader Suffix
  array_size form words left = do
    size ← inner.assign form
    right ← expect_mark MARK_RIGHT_BRACKET (room - 1)
    pure (array_of words (Some size) None left right)

  -- Behind `*`, which is all or begins the size.
  unfoldable pub star_or_size : List ℕ → ℕ → ℕ → PartReader Suffix
  star_or_size words left star =
      where_mark MARK_RIGHT_BRACKET (array_end words (Some star) left)
      (array_size (Behind star) words left)

  unfoldable pub starred : List ℕ → ℕ → PartReader Suffix
  starred words left = do
    star ← expect_mark MARK_STAR (room - 1)
    star_or_size words left star

  unfoldable pub starred_size : List ℕ → ℕ → PartReader Suffix
  starred_size words left = do
    star ← expect_mark MARK_STAR (room - 1)
    array_size (Behind star) words left

  -- A size, behind `_Atomic` or not.
  unfoldable pub some_size : Bool → List ℕ → ℕ → PartReader Suffix
  some_size atomic words left =
      where_mark MARK_STAR (starred_size words left) (array_size (size_form atomic) words left)

  -- A size or nothing.
  unfoldable pub maybe_size : Bool → List ℕ → ℕ → PartReader Suffix
  maybe_size atomic words left =
      where_mark MARK_RIGHT_BRACKET (array_end words None left)
      (array_size (size_form atomic) words left)

  -- A size, `*` or nothing.
  unfoldable pub size_or_star : Bool → List ℕ → ℕ → PartReader Suffix
  size_or_star atomic words left =
      where_mark MARK_STAR (starred words left) (maybe_size atomic words left)

  -- A size or nothing.
  unfoldable pub size_or_nothing : Bool → List ℕ → ℕ → PartReader Suffix
  size_or_nothing atomic words left =
      where_mark MARK_STAR (starred_size words left) (maybe_size atomic words left)

  -- Behind qualifiers, of a declarator with a name or without.
  abbrev pub size_at : Bool → Qualified → ℕ → PartReader Suffix
  size_at true qualified left = size_or_star qualified.atomic qualified.words left
  size_at false qualified left = size_or_nothing qualified.atomic qualified.words left

  unfoldable pub static_behind : Qualified → ℕ → PartReader Suffix
  static_behind qualified left = do
    key ← expect_key KEY_STATIC (room - 1)
    some_size false (qualified.words ++ key ∷ []) left

  unfoldable pub behind_qualifiers : Bool → Qualified → ℕ → PartReader Suffix
  behind_qualifiers named qualified left =
      where_key KEY_STATIC (static_behind qualified left) (size_at named qualified left)

  unfoldable pub qualified_array : Bool → ℕ → PartReader Suffix
  qualified_array named left = do
    qualified ← qualifiers (room - 1)
    behind_qualifiers named qualified left

  unfoldable pub static_words : PartReader Qualified
  static_words = do
    key ← expect_key KEY_STATIC (room - 1)
    all_qualifiers (room - 1) (with_qualifier no_qualifiers key false)

  unfoldable pub static_array : ℕ → PartReader Suffix
  static_array left = do
    qualified ← static_words
    some_size qualified.atomic qualified.words left

  unfoldable pub array : Bool → PartReader Suffix
  array named = do
    left ← expect_mark MARK_LEFT_BRACKET (room - 1)
    where_key KEY_STATIC (static_array left)
        (where_among a_qualifier (qualified_array named left) (size_or_star false [] left))

  -- ---- Parameter lists (6.7.6.3)

  -- The scope of the list ends with it (6.2.1p4).
  unfoldable pub no_params : ℕ → PartReader Suffix
  no_params left = do
    right ← expect_mark MARK_RIGHT_PAREN (room - 1)
    pure (suffix.Params [] None (left ∷ right ∷ []))

  unfoldable pub last_param : Params → Option ℕ → PartReader (Turn Params Suffix)
  last_param params dots = do
    right ← expect_mark MARK_RIGHT_PAREN (room - 1)
    pure (Done (params_of params dots right))

  unfoldable pub dots : Params → PartReader (Turn Params Suffix)
  dots params = do
    token ← expect_mark MARK_ELLIPSIS (room - 1)
    last_param params (Some token)

  unfoldable pub next_param : Params → PartReader (Turn Params Suffix)
  next_param params = do
    param ← inner.param
    pure (Again (with_param params param))

  unfoldable pub comma_param : Params → PartReader (Turn Params Suffix)
  comma_param params = do
    comma ← expect_mark MARK_COMMA (room - 1)
    where_mark MARK_ELLIPSIS (dots (params_to params comma)) (next_param (params_to params comma))

  unfoldable pub param_turn : Params → PartReader (Turn Params Suffix)
  param_turn params = where_mark MARK_COMMA (comma_param params) (last_param params None)

  unfoldable pub all_params : Params → PartReader Suffix
  all_params = repeat param_turn

  unfoldable pub some_params : ℕ → PartReader Suffix
  some_params left = do
    first ← inner.param
    all_params (first_param first left)

  unfoldable pub params_inside : ℕ → PartReader Suffix
  params_inside left = where_mark MARK_RIGHT_PAREN (no_params left) (some_params left)

  -- Behind `(`. The scope of the list stays open.
  unfoldable pub open_params : ℕ → PartReader Suffix
  open_params left = do
    begun ← enter
    params_inside left

  -- Behind `(`. The scope of the list ends with it (6.2.1p4).
  unfoldable pub params : ℕ → PartReader Suffix
  params left = do
    list ← open_params left
    leave list

  unfoldable pub params_suffix : PartReader Suffix
  params_suffix = do
    left ← expect_mark MARK_LEFT_PAREN (room - 1)
    params left

  -- ---- Suffixes

  unfoldable pub one_suffix : Bool → PartReader Suffix
  one_suffix named = where_mark MARK_LEFT_BRACKET (array named) params_suffix

  unfoldable pub more_suffixes : Bool → List Suffix → PartReader (List Suffix)
  more_suffixes named suffixes = do
    next ← one_suffix named
    pure (suffixes ++ next ∷ [])

  unfoldable pub all_suffixes : Bool → List Suffix → PartReader (List Suffix)
  all_suffixes named = many terminal_of begins_suffix (more_suffixes named)

  -- ---- What stands behind pointers (6.7.6)

  unfoldable pub name : List ℕ → Pointing → PartReader Named
  name set pointing = do
    word ← expect_word set room
    suffixes ← all_suffixes true []
    pure (named_of pointing word suffixes)

  -- Behind `(`.
  unfoldable pub group : Naming → Pointing → ℕ → PartReader Named
  group naming pointing left = do
    inside ← inner.group naming
    right ← expect_mark MARK_RIGHT_PAREN (room - 1)
    suffixes ← all_suffixes (is_some inside.name) []
    pure (group_of pointing left inside right suffixes)

  unfoldable pub named_group : Pointing → PartReader Named
  named_group pointing = do
    left ← expect_mark MARK_LEFT_PAREN (room - 1)
    group naming.Named pointing left

  -- Behind `_Atomic` no `(` stands (6.7.2.4p4).
  abbrev pub named_core_at : Bool → Pointing → PartReader Named
  named_core_at true pointing = name any_name pointing
  named_core_at false pointing =
      where_among any_name (name any_name pointing) (named_group pointing)

  unfoldable pub named_core : Pointing → PartReader Named
  named_core pointing = named_core_at pointing.atomic pointing

  unfoldable pub array_core : Pointing → PartReader Named
  array_core pointing = do
    first ← array false
    suffixes ← all_suffixes false (first ∷ [])
    pure (unnamed_of pointing suffixes)

  unfoldable pub params_core : Pointing → ℕ → PartReader Named
  params_core pointing left = do
    first ← params left
    suffixes ← all_suffixes false (first ∷ [])
    pure (unnamed_of pointing suffixes)

  -- A `(` begins parameters or a declarator (6.7.6.3p11).
  unfoldable pub paren_core : Naming → Pointing → PartReader Named
  paren_core naming pointing = do
    left ← expect_mark MARK_LEFT_PAREN (room - 1)
    where_among begins_params (params_core pointing left) (group naming pointing left)

  abbrev pub unnamed_core_at : Naming → Bool → Pointing → PartReader Named
  unnamed_core_at naming true pointing = array_core pointing
  unnamed_core_at naming false pointing =
      where_mark MARK_LEFT_PAREN (paren_core naming pointing) (array_core pointing)

  unfoldable pub unnamed_core : Naming → Pointing → PartReader Named
  unnamed_core naming pointing = unnamed_core_at naming pointing.atomic pointing

  -- ---- Declarators with a name (6.7.6)

  unfoldable pub pointed_name : PartReader Named
  pointed_name = do
    pointing ← pointers room
    named_core pointing

  -- Behind `_Atomic` or not.
  unfoldable pub declarator : Bool → PartReader Named
  declarator atomic = where_mark MARK_STAR pointed_name (named_core (no_pointers atomic))

  -- ---- Declarators without one (6.7.7)

  unfoldable pub pointed_abstract : PartReader Named
  pointed_abstract = do
    pointing ← pointers room
    where_among (begins_unnamed pointing.atomic) (unnamed_core naming.Abstract pointing)
        (pure (unnamed_of pointing []))

  unfoldable pub some_abstract : Bool → PartReader Named
  some_abstract atomic =
      where_mark MARK_STAR pointed_abstract (unnamed_core naming.Abstract (no_pointers atomic))

  unfoldable pub abstract_declarator : Bool → PartReader Named
  abstract_declarator atomic =
      where_among (mark MARK_STAR ∷ begins_unnamed atomic) (some_abstract atomic)
      (pure (unnamed_of (no_pointers atomic) []))

  -- ---- Declarators with a name or without (6.7.6.3)

  unfoldable pub either_core : Pointing → PartReader Named
  either_core pointing =
      where_among any_name (name any_name pointing) (unnamed_core naming.Either pointing)

  unfoldable pub pointed_either : PartReader Named
  pointed_either = do
    pointing ← pointers room
    where_among (begins_either pointing.atomic) (either_core pointing)
        (pure (unnamed_of pointing []))

  unfoldable pub some_either : Bool → PartReader Named
  some_either atomic = where_mark MARK_STAR pointed_either (either_core (no_pointers atomic))

  unfoldable pub either : Bool → PartReader Named
  either atomic =
      where_among (mark MARK_STAR ∷ begins_either atomic) (some_either atomic)
      (pure (unnamed_of (no_pointers atomic) []))

  -- In parentheses a typedef name would begin parameters.
  unfoldable pub grouped_either : PartReader Named
  grouped_either =
      where_mark MARK_STAR pointed_either
      (where_among a_name (name a_name (no_pointers false))
      (unnamed_core naming.Either (no_pointers false)))

  -- ---- In parentheses

  abbrev pub grouped : Naming → PartReader Named
  grouped naming.Named = declarator false
  grouped naming.Abstract = some_abstract false
  grouped naming.Either = grouped_either

  -- ---- Parameters and type names

  unfoldable pub undeclared_param : PartReader NamedParam
  undeclared_param = do
    specified ← specifiers room inner Parameter
    declared ← either specified.atomic
    pure (named_param specified declared)

  -- The name is declared behind the declarator (6.2.1p7).
  unfoldable pub param : PartReader Param
  param = do
    named ← undeclared_param
    declare named.name false named.param

  unfoldable pub type_name : PartReader TypeName
  type_name = do
    specified ← specifiers room inner Nameless
    declared ← abstract_declarator specified.atomic
    pure (type_name_of specified declared)
