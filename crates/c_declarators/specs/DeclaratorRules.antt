-- Rules of declarators, parameters and type names (C11 6.7.6, 6.7.7).

use Rattle.std.specs.Prelude.{ℕ, suc, Bool, true, false, List, [], ◌∷◌, ◌++◌, Option, Some, None}
use Rattle.std.specs.Option.{is_some}
use Rattle.c_lexer.specs.declared.keyword.TheConstants.{KEY_ATOMIC, KEY_STATIC}
use Rattle.c_lexer.specs.declared.mark.TheConstants.{MARK_LEFT_BRACKET, MARK_RIGHT_BRACKET}
use Rattle.c_lexer.specs.declared.mark.TheConstants.{MARK_LEFT_PAREN, MARK_RIGHT_PAREN}
use Rattle.c_lexer.specs.declared.mark.TheConstants.{MARK_COMMA, MARK_ELLIPSIS, MARK_STAR}
use Rattle.c_tree.specs.declared.tree.TypeName.{TypeName}
use Rattle.c_tree.specs.declared.tree.Param.{Param}
use Rattle.c_tree.specs.declared.tree.Suffix.{Suffix}
use Rattle.c_tree.specs.declared.tree.Suffix.TheVariants as suffix
use Rattle.reading.specs.declared.turn.Turn.{Turn}
use Rattle.reading.specs.declared.turn.Turn.TheVariants.{Again, Done}
use Rattle.reading.specs.Rules.{◌>>=◌, ◌or◌, pure, many, repeat}
use Rattle.c_syntax.specs.Scoping.{Part}
use Rattle.c_syntax.specs.Steps.{one_among, one_mark, one_key}
use Rattle.c_syntax.specs.Sets.{a_name, any_name}
use Rattle.c_syntax.specs.declared.forms.AssignForm.{AssignForm}
use Rattle.c_syntax.specs.declared.forms.AssignForm.TheVariants.{Behind}
use Rattle.c_specifiers.specs.declared.forms.Place.TheVariants.{Parameter, Nameless}
use Rattle.c_specifiers.specs.declared.forms.Naming.{Naming}
use Rattle.c_specifiers.specs.declared.forms.Naming.TheVariants as naming
use Rattle.c_declarators.specs.declared.forms.Qualified.{Qualified}
use Rattle.c_declarators.specs.declared.forms.Pointing.{Pointing}
use Rattle.c_specifiers.specs.declared.forms.Named.{Named}
use Rattle.c_declarators.specs.declared.forms.NamedParam.{NamedParam}
use Rattle.c_declarators.specs.declared.forms.Params.{Params}
use Rattle.c_syntax.specs.Sets.{a_plain_qualifier}
use Rattle.c_specifiers.specs.DeclarationSteps.{one_word, declaring, entering, leaving}
use Rattle.c_declarators.specs.DeclaratorForms.{no_qualifiers, with_qualifier, no_pointers}
use Rattle.c_declarators.specs.DeclaratorForms.{with_pointer, named_of, unnamed_of, group_of}
use Rattle.c_declarators.specs.DeclaratorForms.{size_form, array_of, first_param}
use Rattle.c_declarators.specs.DeclaratorForms.{with_param, params_to, params_of, named_param}
use Rattle.c_declarators.specs.DeclaratorForms.{type_name_of}
use Rattle.c_specifiers.specs.Inside.{Inside}
use Rattle.c_specifiers.specs.SpecifierRules.{specifiers}

-- ---- Qualifiers (6.7.3)

module _ (turns level : ℕ) where
  unfoldable pub atomic_qualifier : Qualified → Part Qualified
  atomic_qualifier qualified = do
    key ← one_key KEY_ATOMIC level
    pure (with_qualifier qualified key true)

  unfoldable pub plain_qualifier : Qualified → Part Qualified
  plain_qualifier qualified = do
    key ← one_among a_plain_qualifier level
    pure (with_qualifier qualified key false)

  unfoldable pub qualifier : Qualified → Part Qualified
  qualifier qualified =
      plain_qualifier qualified or atomic_qualifier qualified

  unfoldable pub all_qualifiers : Qualified → Part Qualified
  all_qualifiers = many turns qualifier

  -- One or more.
  unfoldable pub qualifiers : Part Qualified
  qualifiers = do
    first ← qualifier no_qualifiers
    all_qualifiers first

  -- ---- Pointers (6.7.6.1)

  unfoldable pub pointer : Pointing → Part Pointing
  pointer pointing = do
    star ← one_mark MARK_STAR level
    qualified ← all_qualifiers no_qualifiers
    pure (with_pointer pointing star qualified)

  unfoldable pub all_pointers : Pointing → Part Pointing
  all_pointers = many turns pointer

  -- One or more.
  unfoldable pub pointers : Part Pointing
  pointers = do
    first ← pointer (no_pointers false)
    all_pointers first

module _ (turns level : ℕ) (inner : Inside) where
  -- ---- Arrays (6.7.6.2)

  unfoldable pub array_end : List ℕ → Option ℕ → ℕ → Part Suffix
  array_end words star left = do
    right ← one_mark MARK_RIGHT_BRACKET (suc level)
    pure (array_of words None star left right)

  unfoldable pub array_size : AssignForm → List ℕ → ℕ → Part Suffix
  array_size form words left = do
    size ← inner.assign form
    right ← one_mark MARK_RIGHT_BRACKET (suc level)
    pure (array_of words (Some size) None left right)

  -- Behind `*`, which is all or begins the size.
  unfoldable pub star_or_size : List ℕ → ℕ → ℕ → Part Suffix
  star_or_size words left star =
      array_end words (Some star) left or array_size (Behind star) words left

  unfoldable pub starred : List ℕ → ℕ → Part Suffix
  starred words left = do
    star ← one_mark MARK_STAR (suc level)
    star_or_size words left star

  unfoldable pub starred_size : List ℕ → ℕ → Part Suffix
  starred_size words left = do
    star ← one_mark MARK_STAR (suc level)
    array_size (Behind star) words left

  -- A size, behind `_Atomic` or not.
  unfoldable pub some_size : Bool → List ℕ → ℕ → Part Suffix
  some_size atomic words left =
      starred_size words left or array_size (size_form atomic) words left

  -- A size or nothing.
  unfoldable pub maybe_size : Bool → List ℕ → ℕ → Part Suffix
  maybe_size atomic words left =
      array_end words None left or array_size (size_form atomic) words left

  -- A size, `*` or nothing.
  unfoldable pub size_or_star : Bool → List ℕ → ℕ → Part Suffix
  size_or_star atomic words left =
      starred words left or maybe_size atomic words left

  -- A size or nothing.
  unfoldable pub size_or_nothing : Bool → List ℕ → ℕ → Part Suffix
  size_or_nothing atomic words left =
      starred_size words left or maybe_size atomic words left

  -- Behind qualifiers, of a declarator with a name or without.
  abbrev pub size_at : Bool → Qualified → ℕ → Part Suffix
  size_at true qualified left = size_or_star qualified.atomic qualified.words left
  size_at false qualified left = size_or_nothing qualified.atomic qualified.words left

  unfoldable pub static_behind : Qualified → ℕ → Part Suffix
  static_behind qualified left = do
    key ← one_key KEY_STATIC (suc level)
    some_size false (qualified.words ++ key ∷ []) left

  unfoldable pub behind_qualifiers : Bool → Qualified → ℕ → Part Suffix
  behind_qualifiers named qualified left =
      static_behind qualified left or size_at named qualified left

  unfoldable pub qualified_array : Bool → ℕ → Part Suffix
  qualified_array named left = do
    qualified ← qualifiers turns (suc level)
    behind_qualifiers named qualified left

  unfoldable pub static_words : Part Qualified
  static_words = do
    key ← one_key KEY_STATIC (suc level)
    all_qualifiers turns (suc level) (with_qualifier no_qualifiers key false)

  unfoldable pub static_array : ℕ → Part Suffix
  static_array left = do
    qualified ← static_words
    some_size qualified.atomic qualified.words left

  unfoldable pub array : Bool → Part Suffix
  array named = do
    left ← one_mark MARK_LEFT_BRACKET (suc level)
    static_array left or qualified_array named left or size_or_star false [] left

  -- ---- Parameter lists (6.7.6.3)

  unfoldable pub no_params : ℕ → Part Suffix
  no_params left = do
    right ← one_mark MARK_RIGHT_PAREN (suc level)
    pure (suffix.Params [] None (left ∷ right ∷ []))

  unfoldable pub last_param : Params → Option ℕ → Part (Turn Params Suffix)
  last_param params dots = do
    right ← one_mark MARK_RIGHT_PAREN (suc level)
    pure (Done (params_of params dots right))

  unfoldable pub dots : Params → Part (Turn Params Suffix)
  dots params = do
    token ← one_mark MARK_ELLIPSIS (suc level)
    last_param params (Some token)

  unfoldable pub next_param : Params → Part (Turn Params Suffix)
  next_param params = do
    param ← inner.param
    pure (Again (with_param params param))

  unfoldable pub comma_param : Params → Part (Turn Params Suffix)
  comma_param params = do
    comma ← one_mark MARK_COMMA (suc level)
    dots (params_to params comma) or next_param (params_to params comma)

  unfoldable pub param_turn : Params → Part (Turn Params Suffix)
  param_turn params = comma_param params or last_param params None

  unfoldable pub all_params : Params → Part Suffix
  all_params = repeat turns param_turn

  unfoldable pub some_params : ℕ → Part Suffix
  some_params left = do
    first ← inner.param
    all_params (first_param first left)

  unfoldable pub params_inside : ℕ → Part Suffix
  params_inside left = no_params left or some_params left

  -- Behind `(`. The scope of the list stays open.
  unfoldable pub open_params : ℕ → Part Suffix
  open_params left = do
    begun ← entering
    params_inside left

  -- Behind `(`. The scope of the list ends with it (6.2.1p4).
  unfoldable pub params : ℕ → Part Suffix
  params left = do
    list ← open_params left
    leaving list

  unfoldable pub params_suffix : Part Suffix
  params_suffix = do
    left ← one_mark MARK_LEFT_PAREN (suc level)
    params left

  -- ---- Suffixes

  unfoldable pub one_suffix : Bool → Part Suffix
  one_suffix named = array named or params_suffix

  unfoldable pub more_suffixes : Bool → List Suffix → Part (List Suffix)
  more_suffixes named suffixes = do
    next ← one_suffix named
    pure (suffixes ++ next ∷ [])

  unfoldable pub all_suffixes : Bool → List Suffix → Part (List Suffix)
  all_suffixes named = many turns (more_suffixes named)

  -- ---- What stands behind pointers (6.7.6)

  unfoldable pub name : List ℕ → Pointing → Part Named
  name set pointing = do
    word ← one_word set level
    suffixes ← all_suffixes true []
    pure (named_of pointing word suffixes)

  -- Behind `(`.
  unfoldable pub group : Naming → Pointing → ℕ → Part Named
  group naming pointing left = do
    inside ← inner.group naming
    right ← one_mark MARK_RIGHT_PAREN (suc level)
    suffixes ← all_suffixes (is_some inside.name) []
    pure (group_of pointing left inside right suffixes)

  unfoldable pub named_group : Pointing → Part Named
  named_group pointing = do
    left ← one_mark MARK_LEFT_PAREN (suc level)
    group naming.Named pointing left

  -- Behind `_Atomic` no `(` stands (6.7.2.4p4).
  abbrev pub named_core_at : Bool → Pointing → Part Named
  named_core_at true pointing = name any_name pointing
  named_core_at false pointing =
      name any_name pointing or named_group pointing

  unfoldable pub named_core : Pointing → Part Named
  named_core pointing = named_core_at pointing.atomic pointing

  unfoldable pub array_core : Pointing → Part Named
  array_core pointing = do
    first ← array false
    suffixes ← all_suffixes false (first ∷ [])
    pure (unnamed_of pointing suffixes)

  unfoldable pub params_core : Pointing → ℕ → Part Named
  params_core pointing left = do
    first ← params left
    suffixes ← all_suffixes false (first ∷ [])
    pure (unnamed_of pointing suffixes)

  -- A `(` begins parameters or a declarator (6.7.6.3p11).
  unfoldable pub paren_core : Naming → Pointing → Part Named
  paren_core naming pointing = do
    left ← one_mark MARK_LEFT_PAREN (suc level)
    params_core pointing left or group naming pointing left

  abbrev pub unnamed_core_at : Naming → Bool → Pointing → Part Named
  unnamed_core_at naming true pointing = array_core pointing
  unnamed_core_at naming false pointing =
      paren_core naming pointing or array_core pointing

  unfoldable pub unnamed_core : Naming → Pointing → Part Named
  unnamed_core naming pointing = unnamed_core_at naming pointing.atomic pointing

  -- ---- Declarators with a name (6.7.6)

  unfoldable pub pointed_name : Part Named
  pointed_name = do
    pointing ← pointers turns level
    named_core pointing

  -- Behind `_Atomic` or not.
  unfoldable pub declarator : Bool → Part Named
  declarator atomic = pointed_name or named_core (no_pointers atomic)

  -- ---- Declarators without one (6.7.7)

  unfoldable pub pointed_abstract : Part Named
  pointed_abstract = do
    pointing ← pointers turns level
    unnamed_core naming.Abstract pointing or pure (unnamed_of pointing [])

  unfoldable pub some_abstract : Bool → Part Named
  some_abstract atomic =
      pointed_abstract or unnamed_core naming.Abstract (no_pointers atomic)

  unfoldable pub abstract_declarator : Bool → Part Named
  abstract_declarator atomic =
      some_abstract atomic or pure (unnamed_of (no_pointers atomic) [])

  -- ---- Declarators with a name or without (6.7.6.3)

  unfoldable pub either_core : Pointing → Part Named
  either_core pointing =
      name any_name pointing or unnamed_core naming.Either pointing

  unfoldable pub pointed_either : Part Named
  pointed_either = do
    pointing ← pointers turns level
    either_core pointing or pure (unnamed_of pointing [])

  unfoldable pub some_either : Bool → Part Named
  some_either atomic = pointed_either or either_core (no_pointers atomic)

  unfoldable pub either : Bool → Part Named
  either atomic =
      some_either atomic or pure (unnamed_of (no_pointers atomic) [])

  -- In parentheses a typedef name would begin parameters.
  unfoldable pub grouped_either : Part Named
  grouped_either =
      pointed_either or name a_name (no_pointers false) or
      unnamed_core naming.Either (no_pointers false)

  -- ---- In parentheses

  abbrev pub grouped : Naming → Part Named
  grouped naming.Named = declarator false
  grouped naming.Abstract = some_abstract false
  grouped naming.Either = grouped_either

  -- ---- Parameters and type names

  unfoldable pub undeclared_param : Part NamedParam
  undeclared_param = do
    specified ← specifiers turns level inner Parameter
    declared ← either specified.atomic
    pure (named_param specified declared)

  -- The name is declared behind the declarator (6.2.1p7).
  unfoldable pub param : Part Param
  param = do
    named ← undeclared_param
    declaring named.name false named.param

  unfoldable pub type_name : Part TypeName
  type_name = do
    specified ← specifiers turns level inner Nameless
    declared ← abstract_declarator specified.atomic
    pure (type_name_of specified declared)
