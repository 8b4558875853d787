-- Rules of declaration specifiers (C11 6.7.1 to 6.7.5).

use Rattle.std.specs.Prelude.{ℕ, suc, false, List, [], ◌∷◌, ◌++◌, Option, Some, None}
use Rattle.c_lexer.specs.declared.keyword.TheConstants.{KEY_ALIGNAS, KEY_ATOMIC, KEY_ENUM}
use Rattle.c_lexer.specs.declared.keyword.TheConstants.{KEY_REGISTER, KEY_TYPEDEF}
use Rattle.c_lexer.specs.declared.mark.TheConstants.{MARK_LEFT_PAREN, MARK_RIGHT_PAREN}
use Rattle.c_lexer.specs.declared.mark.TheConstants.{MARK_LEFT_BRACE, MARK_RIGHT_BRACE}
use Rattle.c_lexer.specs.declared.mark.TheConstants.{MARK_COMMA, MARK_EQUAL}
use Rattle.c_tree.specs.declared.tree.Spec.{Spec}
use Rattle.c_tree.specs.declared.tree.Spec.TheVariants as spec
use Rattle.c_tree.specs.declared.tree.Enumerator.{Enumerator}
use Rattle.c_tree.specs.Forms.{sole}
use Rattle.reading.specs.declared.turn.Turn.{Turn}
use Rattle.reading.specs.declared.turn.Turn.TheVariants.{Again, Done}
use Rattle.reading.specs.Rules.{◌>>=◌, ◌or◌, pure, many, repeat}
use Rattle.c_syntax.specs.Scoping.{Part}
use Rattle.c_syntax.specs.Steps.{one_among, one_mark, one_key}
use Rattle.c_syntax.specs.Sets.{any_name, a_typedef_name, a_basic_type}
use Rattle.c_specifiers.specs.Words.{NamedToken}
use Rattle.c_syntax.specs.declared.forms.AssignForm.TheVariants.{Constant}
use Rattle.c_specifiers.specs.declared.forms.Place.{Place}
use Rattle.c_specifiers.specs.declared.forms.Place.TheVariants.{Ordinary, Definition, Parameter}
use Rattle.c_specifiers.specs.declared.forms.Place.TheVariants.{Member, Nameless}
use Rattle.c_specifiers.specs.declared.forms.Specified.{Specified}
use Rattle.c_specifiers.specs.declared.forms.NamedEnumerator.{NamedEnumerator}
use Rattle.c_specifiers.specs.declared.forms.Members.{Members}
use Rattle.c_specifiers.specs.declared.forms.Enumerators.{Enumerators}
use Rattle.c_specifiers.specs.DeclarationSets.{a_storage_class, a_function_specifier}
use Rattle.c_syntax.specs.Sets.{a_plain_qualifier, a_record}
use Rattle.c_specifiers.specs.DeclarationSteps.{one_word, declaring}
use Rattle.c_specifiers.specs.SpecifierForms.{no_specifiers, with_spec, with_typedef}
use Rattle.c_specifiers.specs.SpecifierForms.{with_atomic, first_member, with_member}
use Rattle.c_specifiers.specs.SpecifierForms.{members_to, named_enumerator, first_enumerator}
use Rattle.c_specifiers.specs.SpecifierForms.{with_enumerator, enumerators_to}
use Rattle.c_specifiers.specs.Inside.{Inside}

module _ (turns level : ℕ) (inner : Inside) where
  -- ---- Alignment (6.7.5)

  unfoldable pub aligned_like : Specified → List ℕ → Part Specified
  aligned_like specified marks = do
    named ← inner.type_name
    right ← one_mark MARK_RIGHT_PAREN (suc level)
    pure (with_spec specified (spec.AlignType named (marks ++ right ∷ [])))

  unfoldable pub aligned_to : Specified → List ℕ → Part Specified
  aligned_to specified marks = do
    value ← inner.assign Constant
    right ← one_mark MARK_RIGHT_PAREN (suc level)
    pure (with_spec specified (spec.AlignExpr (sole value) (marks ++ right ∷ [])))

  unfoldable pub aligned : Specified → Part Specified
  aligned specified = do
    key ← one_key KEY_ALIGNAS level
    left ← one_mark MARK_LEFT_PAREN (suc level)
    aligned_like specified (key ∷ left ∷ []) or aligned_to specified (key ∷ left ∷ [])

  -- ---- Specifiers that are no type specifiers (6.7.1, 6.7.3, 6.7.4)

  unfoldable pub typedef_word : Specified → Part Specified
  typedef_word specified = do
    key ← one_key KEY_TYPEDEF level
    pure (with_typedef specified key)

  unfoldable pub storage_word : Specified → Part Specified
  storage_word specified = do
    key ← one_among a_storage_class level
    pure (with_spec specified (spec.Storage key))

  unfoldable pub register_word : Specified → Part Specified
  register_word specified = do
    key ← one_key KEY_REGISTER level
    pure (with_spec specified (spec.Storage key))

  unfoldable pub function_word : Specified → Part Specified
  function_word specified = do
    key ← one_among a_function_specifier level
    pure (with_spec specified (spec.Function key))

  unfoldable pub qualifier_word : Specified → Part Specified
  qualifier_word specified = do
    key ← one_among a_plain_qualifier level
    pure (with_spec specified (spec.Qualifier key))

  -- Which of them may stand at a place.
  unfoldable pub aligned_modifier : Specified → Part Specified
  aligned_modifier specified =
      aligned specified or qualifier_word specified

  unfoldable pub function_modifier : Specified → Part Specified
  function_modifier specified =
      function_word specified or aligned_modifier specified

  unfoldable pub definition_modifier : Specified → Part Specified
  definition_modifier specified =
      storage_word specified or function_modifier specified

  unfoldable pub ordinary_modifier : Specified → Part Specified
  ordinary_modifier specified =
      typedef_word specified or definition_modifier specified

  unfoldable pub parameter_modifier : Specified → Part Specified
  parameter_modifier specified =
      register_word specified or function_modifier specified

  abbrev pub modifier : Place → Specified → Part Specified
  modifier Ordinary specified = ordinary_modifier specified
  modifier Definition specified = definition_modifier specified
  modifier Parameter specified = parameter_modifier specified
  modifier Member specified = aligned_modifier specified
  modifier Nameless specified = qualifier_word specified

  -- ---- Structures and unions (6.7.2.1)

  unfoldable pub last_member : Members → Part (Turn Members Members)
  last_member members = do
    right ← one_mark MARK_RIGHT_BRACE (suc level)
    pure (Done (members_to members right))

  unfoldable pub next_member : Members → Part (Turn Members Members)
  next_member members = do
    member ← inner.member
    pure (Again (with_member members member))

  unfoldable pub member_turn : Members → Part (Turn Members Members)
  member_turn members =
      last_member members or next_member members

  unfoldable pub all_members : Members → Part Members
  all_members = repeat turns member_turn

  unfoldable pub record_body : Part Members
  record_body = do
    left ← one_mark MARK_LEFT_BRACE (suc level)
    first ← inner.member
    all_members (first_member first left)

  unfoldable pub record_with : ℕ → Option ℕ → Part Spec
  record_with key tag = do
    body ← record_body
    pure (spec.Record key tag (Some body.list) body.marks)

  unfoldable pub tagged_record : ℕ → Part Spec
  tagged_record key = do
    tag ← one_among any_name level
    record_with key (Some tag) or pure (spec.Record key (Some tag) None [])

  unfoldable pub record_spec : Part Spec
  record_spec = do
    key ← one_among a_record level
    tagged_record key or record_with key None

  unfoldable pub record_word : Specified → Part Specified
  record_word specified = do
    word ← record_spec
    pure (with_spec specified word)

  -- ---- Enumerations (6.7.2.2)

  unfoldable pub enumerator_value : NamedToken → Part NamedEnumerator
  enumerator_value word = do
    equals ← one_mark MARK_EQUAL (suc level)
    value ← inner.assign Constant
    pure (named_enumerator word (Some value) (equals ∷ []))

  unfoldable pub undeclared_enumerator : Part NamedEnumerator
  undeclared_enumerator = do
    word ← one_word any_name (suc level)
    enumerator_value word or pure (named_enumerator word None [])

  -- The name is declared behind the value (6.2.1p7).
  unfoldable pub enumerator : Part Enumerator
  enumerator = do
    named ← undeclared_enumerator
    declaring (Some named.name) false named.enumerator

  unfoldable pub last_enumerator : Enumerators → Part (Turn Enumerators Enumerators)
  last_enumerator enumerators = do
    right ← one_mark MARK_RIGHT_BRACE (suc level)
    pure (Done (enumerators_to enumerators right))

  unfoldable pub next_enumerator : Enumerators → Part (Turn Enumerators Enumerators)
  next_enumerator enumerators = do
    next ← enumerator
    pure (Again (with_enumerator enumerators next))

  unfoldable pub comma_enumerator : Enumerators → Part (Turn Enumerators Enumerators)
  comma_enumerator enumerators = do
    comma ← one_mark MARK_COMMA (suc level)
    last_enumerator (enumerators_to enumerators comma) or
        next_enumerator (enumerators_to enumerators comma)

  unfoldable pub enumerator_turn : Enumerators → Part (Turn Enumerators Enumerators)
  enumerator_turn enumerators =
      comma_enumerator enumerators or last_enumerator enumerators

  unfoldable pub all_enumerators : Enumerators → Part Enumerators
  all_enumerators = repeat turns enumerator_turn

  unfoldable pub enumeration_body : Part Enumerators
  enumeration_body = do
    left ← one_mark MARK_LEFT_BRACE (suc level)
    first ← enumerator
    all_enumerators (first_enumerator first left)

  unfoldable pub enumeration_with : ℕ → Option ℕ → Part Spec
  enumeration_with key tag = do
    body ← enumeration_body
    pure (spec.Enumeration key tag (Some body.list) body.marks)

  unfoldable pub tagged_enumeration : ℕ → Part Spec
  tagged_enumeration key = do
    tag ← one_among any_name level
    enumeration_with key (Some tag) or pure (spec.Enumeration key (Some tag) None [])

  unfoldable pub enumeration_spec : Part Spec
  enumeration_spec = do
    key ← one_key KEY_ENUM level
    tagged_enumeration key or enumeration_with key None

  unfoldable pub enumeration_word : Specified → Part Specified
  enumeration_word specified = do
    word ← enumeration_spec
    pure (with_spec specified word)

  -- ---- Type specifiers (6.7.2)

  unfoldable pub basic_word : Specified → Part Specified
  basic_word specified = do
    key ← one_among a_basic_type level
    pure (with_spec specified (spec.Basic key))

  unfoldable pub type_word : Specified → Part Specified
  type_word specified =
      basic_word specified or record_word specified or enumeration_word specified

  -- Behind `_Atomic` (6.7.2.4).
  unfoldable pub atomic_type : Specified → ℕ → Part Specified
  atomic_type specified key = do
    left ← one_mark MARK_LEFT_PAREN (suc level)
    named ← inner.type_name
    right ← one_mark MARK_RIGHT_PAREN (suc level)
    pure (with_spec specified (spec.Atomic named (key ∷ left ∷ right ∷ [])))

  -- ---- Specifiers up to the first type specifier

  unfoldable pub typedef_name_turn : Specified → Part (Turn Specified Specified)
  typedef_name_turn specified = do
    name ← one_among a_typedef_name level
    pure (Done (with_spec specified (spec.Named name)))

  unfoldable pub atomic_type_turn : Specified → ℕ → Part (Turn Specified Specified)
  atomic_type_turn specified key = do
    typed ← atomic_type specified key
    pure (Done typed)

  unfoldable pub atomic_turn : Specified → Part (Turn Specified Specified)
  atomic_turn specified = do
    key ← one_key KEY_ATOMIC level
    atomic_type_turn specified key or pure (Again (with_atomic specified key))

  unfoldable pub type_turn : Specified → Part (Turn Specified Specified)
  type_turn specified = do
    typed ← type_word specified
    pure (Done typed)

  unfoldable pub modifier_turn : Place → Specified → Part (Turn Specified Specified)
  modifier_turn place specified = do
    more ← modifier place specified
    pure (Again more)

  unfoldable pub untyped_turn : Place → Specified → Part (Turn Specified Specified)
  untyped_turn place specified =
      typedef_name_turn specified or atomic_turn specified or type_turn specified or
      modifier_turn place specified

  unfoldable pub up_to_type : Place → Part Specified
  up_to_type place = repeat turns (untyped_turn place) no_specifiers

  -- ---- Specifiers behind it, of which none is a typedef name

  unfoldable pub atomic_word : Specified → Part Specified
  atomic_word specified = do
    key ← one_key KEY_ATOMIC level
    atomic_type specified key or pure (with_atomic specified key)

  unfoldable pub more_words : Place → Specified → Part Specified
  more_words place specified =
      atomic_word specified or type_word specified or modifier place specified

  unfoldable pub all_words : Place → Specified → Part Specified
  all_words place = many turns (more_words place)

  unfoldable pub specifiers : Place → Part Specified
  specifiers place = do
    typed ← up_to_type place
    all_words place typed
