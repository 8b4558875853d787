-- Readers of declaration specifiers (C11 6.7.1 to 6.7.5).

use Rattle.std.specs.Prelude.{ℕ, ◌-◌, false, List, [], ◌∷◌, ◌++◌, Option, Some, None}
use Rattle.c_lexer.specs.declared.keyword.TheConstants.{KEY_ALIGNAS, KEY_ATOMIC, KEY_ENUM}
use Rattle.c_lexer.specs.declared.keyword.TheConstants.{KEY_REGISTER, KEY_TYPEDEF}
use Rattle.c_lexer.specs.declared.mark.TheConstants.{MARK_LEFT_PAREN, MARK_RIGHT_PAREN}
use Rattle.c_lexer.specs.declared.mark.TheConstants.{MARK_LEFT_BRACE, MARK_RIGHT_BRACE}
use Rattle.c_lexer.specs.declared.mark.TheConstants.{MARK_COMMA, MARK_EQUAL}
use Rattle.c_tree.specs.declared.tree.Spec.{Spec}
use Rattle.c_tree.specs.declared.tree.Spec.TheVariants as spec
use Rattle.c_tree.specs.declared.tree.Enumerator.{Enumerator}
use Rattle.c_tree.specs.Forms.{sole}
use Rattle.reading.specs.declared.turn.Turn.{Turn}
use Rattle.reading.specs.declared.turn.Turn.TheVariants.{Again, Done}
use Rattle.reading.specs.Readers.{◌>>=◌, pure, many, repeat}
use Rattle.c_syntax.specs.Scoping.{PartReader, terminal_of}
use Rattle.c_syntax.specs.Sets.{any_name, a_typedef_name, a_basic_type}
use Rattle.c_syntax.specs.Steps.{expect_among, expect_mark, expect_key, where_among, where_mark}
use Rattle.c_syntax.specs.Steps.{where_key}
use Rattle.c_specifiers.specs.Words.{NamedToken}
use Rattle.c_syntax.specs.declared.forms.AssignForm.TheVariants.{Constant}
use Rattle.c_specifiers.specs.declared.forms.Place.{Place}
use Rattle.c_specifiers.specs.declared.forms.Place.TheVariants.{Ordinary, Definition, Parameter}
use Rattle.c_specifiers.specs.declared.forms.Place.TheVariants.{Member, Nameless}
use Rattle.c_specifiers.specs.declared.forms.Specified.{Specified}
use Rattle.c_specifiers.specs.declared.forms.NamedEnumerator.{NamedEnumerator}
use Rattle.c_specifiers.specs.declared.forms.Members.{Members}
use Rattle.c_specifiers.specs.declared.forms.Enumerators.{Enumerators}
use Rattle.c_specifiers.specs.DeclarationSets.{a_storage_class, a_function_specifier}
use Rattle.c_syntax.specs.Sets.{a_plain_qualifier, a_record, begins_specifier}
use Rattle.c_specifiers.specs.DeclarationSets.{begins_specifiers, begins_word}
use Rattle.c_specifiers.specs.DeclarationSteps.{expect_word, declare}
use Rattle.c_specifiers.specs.SpecifierForms.{no_specifiers, with_spec, with_typedef}
use Rattle.c_specifiers.specs.SpecifierForms.{with_atomic, first_member, with_member}
use Rattle.c_specifiers.specs.SpecifierForms.{members_to, named_enumerator, first_enumerator}
use Rattle.c_specifiers.specs.SpecifierForms.{with_enumerator, enumerators_to}
use Rattle.c_specifiers.specs.Inside.{InsideReaders}

module _ (room : ℕ) (inner : InsideReaders) where
  -- ---- Alignment (6.7.5)

  unfoldable pub aligned_like : Specified → List ℕ → PartReader Specified
  aligned_like specified marks = do
    named ← inner.type_name
    right ← expect_mark MARK_RIGHT_PAREN (room - 1)
    pure (with_spec specified (spec.AlignType named (marks ++ right ∷ [])))

  unfoldable pub aligned_to : Specified → List ℕ → PartReader Specified
  aligned_to specified marks = do
    value ← inner.assign Constant
    right ← expect_mark MARK_RIGHT_PAREN (room - 1)
    pure (with_spec specified (spec.AlignExpr (sole value) (marks ++ right ∷ [])))

  unfoldable pub aligned : Specified → PartReader Specified
  aligned specified = do
    key ← expect_key KEY_ALIGNAS room
    left ← expect_mark MARK_LEFT_PAREN (room - 1)
    where_among (begins_specifiers Nameless) (aligned_like specified (key ∷ left ∷ []))
        (aligned_to specified (key ∷ left ∷ []))

  -- ---- Specifiers that are no type specifiers (6.7.1, 6.7.3, 6.7.4)

  unfoldable pub typedef_word : Specified → PartReader Specified
  typedef_word specified = do
    key ← expect_key KEY_TYPEDEF room
    pure (with_typedef specified key)

  unfoldable pub storage_word : Specified → PartReader Specified
  storage_word specified = do
    key ← expect_among a_storage_class room
    pure (with_spec specified (spec.Storage key))

  unfoldable pub register_word : Specified → PartReader Specified
  register_word specified = do
    key ← expect_key KEY_REGISTER room
    pure (with_spec specified (spec.Storage key))

  unfoldable pub function_word : Specified → PartReader Specified
  function_word specified = do
    key ← expect_among a_function_specifier room
    pure (with_spec specified (spec.Function key))

  unfoldable pub qualifier_word : Specified → PartReader Specified
  qualifier_word specified = do
    key ← expect_among a_plain_qualifier room
    pure (with_spec specified (spec.Qualifier key))

  -- Which of them may stand at a place.
  unfoldable pub aligned_modifier : Specified → PartReader Specified
  aligned_modifier specified =
      where_key KEY_ALIGNAS (aligned specified) (qualifier_word specified)

  unfoldable pub function_modifier : Specified → PartReader Specified
  function_modifier specified =
      where_among a_function_specifier (function_word specified) (aligned_modifier specified)

  unfoldable pub definition_modifier : Specified → PartReader Specified
  definition_modifier specified =
      where_among a_storage_class (storage_word specified) (function_modifier specified)

  unfoldable pub ordinary_modifier : Specified → PartReader Specified
  ordinary_modifier specified =
      where_key KEY_TYPEDEF (typedef_word specified) (definition_modifier specified)

  unfoldable pub parameter_modifier : Specified → PartReader Specified
  parameter_modifier specified =
      where_key KEY_REGISTER (register_word specified) (function_modifier specified)

  abbrev pub modifier : Place → Specified → PartReader Specified
  modifier Ordinary specified = ordinary_modifier specified
  modifier Definition specified = definition_modifier specified
  modifier Parameter specified = parameter_modifier specified
  modifier Member specified = aligned_modifier specified
  modifier Nameless specified = qualifier_word specified

  -- ---- Structures and unions (6.7.2.1)

  unfoldable pub last_member : Members → PartReader (Turn Members Members)
  last_member members = do
    right ← expect_mark MARK_RIGHT_BRACE (room - 1)
    pure (Done (members_to members right))

  unfoldable pub next_member : Members → PartReader (Turn Members Members)
  next_member members = do
    member ← inner.member
    pure (Again (with_member members member))

  unfoldable pub member_turn : Members → PartReader (Turn Members Members)
  member_turn members =
      where_mark MARK_RIGHT_BRACE (last_member members) (next_member members)

  unfoldable pub all_members : Members → PartReader Members
  all_members = repeat member_turn

  unfoldable pub record_body : PartReader Members
  record_body = do
    left ← expect_mark MARK_LEFT_BRACE (room - 1)
    first ← inner.member
    all_members (first_member first left)

  unfoldable pub record_with : ℕ → Option ℕ → PartReader Spec
  record_with key tag = do
    body ← record_body
    pure (spec.Record key tag (Some body.list) body.marks)

  unfoldable pub tagged_record : ℕ → PartReader Spec
  tagged_record key = do
    tag ← expect_among any_name room
    where_mark MARK_LEFT_BRACE (record_with key (Some tag))
        (pure (spec.Record key (Some tag) None []))

  unfoldable pub record_spec : PartReader Spec
  record_spec = do
    key ← expect_among a_record room
    where_among any_name (tagged_record key) (record_with key None)

  unfoldable pub record_word : Specified → PartReader Specified
  record_word specified = do
    word ← record_spec
    pure (with_spec specified word)

  -- ---- Enumerations (6.7.2.2)

  unfoldable pub enumerator_value : NamedToken → PartReader NamedEnumerator
  enumerator_value word = do
    equals ← expect_mark MARK_EQUAL (room - 1)
    value ← inner.assign Constant
    pure (named_enumerator word (Some value) (equals ∷ []))

  unfoldable pub undeclared_enumerator : PartReader NamedEnumerator
  undeclared_enumerator = do
    word ← expect_word any_name (room - 1)
    where_mark MARK_EQUAL (enumerator_value word) (pure (named_enumerator word None []))

  -- The name is declared behind the value (6.2.1p7).
  unfoldable pub enumerator : PartReader Enumerator
  enumerator = do
    named ← undeclared_enumerator
    declare (Some named.name) false named.enumerator

  unfoldable pub last_enumerator : Enumerators → PartReader (Turn Enumerators Enumerators)
  last_enumerator enumerators = do
    right ← expect_mark MARK_RIGHT_BRACE (room - 1)
    pure (Done (enumerators_to enumerators right))

  unfoldable pub next_enumerator : Enumerators → PartReader (Turn Enumerators Enumerators)
  next_enumerator enumerators = do
    next ← enumerator
    pure (Again (with_enumerator enumerators next))

  unfoldable pub comma_enumerator : Enumerators → PartReader (Turn Enumerators Enumerators)
  comma_enumerator enumerators = do
    comma ← expect_mark MARK_COMMA (room - 1)
    where_mark MARK_RIGHT_BRACE (last_enumerator (enumerators_to enumerators comma))
        (next_enumerator (enumerators_to enumerators comma))

  unfoldable pub enumerator_turn : Enumerators → PartReader (Turn Enumerators Enumerators)
  enumerator_turn enumerators =
      where_mark MARK_COMMA (comma_enumerator enumerators) (last_enumerator enumerators)

  unfoldable pub all_enumerators : Enumerators → PartReader Enumerators
  all_enumerators = repeat enumerator_turn

  unfoldable pub enumeration_body : PartReader Enumerators
  enumeration_body = do
    left ← expect_mark MARK_LEFT_BRACE (room - 1)
    first ← enumerator
    all_enumerators (first_enumerator first left)

  unfoldable pub enumeration_with : ℕ → Option ℕ → PartReader Spec
  enumeration_with key tag = do
    body ← enumeration_body
    pure (spec.Enumeration key tag (Some body.list) body.marks)

  unfoldable pub tagged_enumeration : ℕ → PartReader Spec
  tagged_enumeration key = do
    tag ← expect_among any_name room
    where_mark MARK_LEFT_BRACE (enumeration_with key (Some tag))
        (pure (spec.Enumeration key (Some tag) None []))

  unfoldable pub enumeration_spec : PartReader Spec
  enumeration_spec = do
    key ← expect_key KEY_ENUM room
    where_among any_name (tagged_enumeration key) (enumeration_with key None)

  unfoldable pub enumeration_word : Specified → PartReader Specified
  enumeration_word specified = do
    word ← enumeration_spec
    pure (with_spec specified word)

  -- ---- Type specifiers (6.7.2)

  unfoldable pub basic_word : Specified → PartReader Specified
  basic_word specified = do
    key ← expect_among a_basic_type room
    pure (with_spec specified (spec.Basic key))

  unfoldable pub type_word : Specified → PartReader Specified
  type_word specified =
      where_among a_basic_type (basic_word specified)
      (where_among a_record (record_word specified) (enumeration_word specified))

  -- Behind `_Atomic` (6.7.2.4).
  unfoldable pub atomic_type : Specified → ℕ → PartReader Specified
  atomic_type specified key = do
    left ← expect_mark MARK_LEFT_PAREN (room - 1)
    named ← inner.type_name
    right ← expect_mark MARK_RIGHT_PAREN (room - 1)
    pure (with_spec specified (spec.Atomic named (key ∷ left ∷ right ∷ [])))

  -- ---- Specifiers up to the first type specifier

  unfoldable pub typedef_name_turn : Specified → PartReader (Turn Specified Specified)
  typedef_name_turn specified = do
    name ← expect_among a_typedef_name room
    pure (Done (with_spec specified (spec.Named name)))

  unfoldable pub atomic_type_turn : Specified → ℕ → PartReader (Turn Specified Specified)
  atomic_type_turn specified key = do
    typed ← atomic_type specified key
    pure (Done typed)

  unfoldable pub atomic_turn : Specified → PartReader (Turn Specified Specified)
  atomic_turn specified = do
    key ← expect_key KEY_ATOMIC room
    where_mark MARK_LEFT_PAREN (atomic_type_turn specified key)
        (pure (Again (with_atomic specified key)))

  unfoldable pub type_turn : Specified → PartReader (Turn Specified Specified)
  type_turn specified = do
    typed ← type_word specified
    pure (Done typed)

  unfoldable pub modifier_turn : Place → Specified → PartReader (Turn Specified Specified)
  modifier_turn place specified = do
    more ← modifier place specified
    pure (Again more)

  unfoldable pub untyped_turn : Place → Specified → PartReader (Turn Specified Specified)
  untyped_turn place specified =
      where_among a_typedef_name (typedef_name_turn specified)
      (where_key KEY_ATOMIC (atomic_turn specified)
      (where_among begins_specifier (type_turn specified) (modifier_turn place specified)))

  unfoldable pub up_to_type : Place → PartReader Specified
  up_to_type place = repeat (untyped_turn place) no_specifiers

  -- ---- Specifiers behind it, of which none is a typedef name

  unfoldable pub atomic_word : Specified → PartReader Specified
  atomic_word specified = do
    key ← expect_key KEY_ATOMIC room
    where_mark MARK_LEFT_PAREN (atomic_type specified key) (pure (with_atomic specified key))

  unfoldable pub more_words : Place → Specified → PartReader Specified
  more_words place specified =
      where_key KEY_ATOMIC (atomic_word specified)
      (where_among begins_specifier (type_word specified) (modifier place specified))

  unfoldable pub all_words : Place → Specified → PartReader Specified
  all_words place = many terminal_of (begins_word place) (more_words place)

  unfoldable pub specifiers : Place → PartReader Specified
  specifiers place = do
    typed ← up_to_type place
    all_words place typed
