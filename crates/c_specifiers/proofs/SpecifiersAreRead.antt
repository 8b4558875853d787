-- Declaration specifiers are read exactly (C11 6.7.1 to 6.7.5), a term a rule.

use Rattle.std.proofs.Common.{◌≡◌, inl, inr, ℕ, suc, ◌-◌, ◌<◌, Bool, true, false, List, [], ◌∷◌, ◌++◌, Option, Some, None, refl, arith}
use Rattle.c_lexer.specs.declared.token.Kind.TheVariants.{Word, Key, Mark}
use Rattle.c_lexer.specs.declared.keyword.TheConstants.{KEY_ALIGNAS, KEY_ATOMIC, KEY_CONST, KEY_ENUM, KEY_EXTERN}
use Rattle.c_lexer.specs.declared.keyword.TheConstants.{KEY_INLINE, KEY_INT, KEY_REGISTER, KEY_STRUCT, KEY_TYPEDEF}
use Rattle.c_lexer.specs.declared.mark.TheConstants.{MARK_LEFT_PAREN, MARK_RIGHT_PAREN, MARK_LEFT_BRACE}
use Rattle.c_lexer.specs.declared.mark.TheConstants.{MARK_RIGHT_BRACE, MARK_COMMA, MARK_EQUAL}
use Rattle.c_tree.specs.declared.tree.Spec.{Spec}
use Rattle.c_tree.specs.declared.tree.Spec.TheVariants as spec
use Rattle.c_tree.specs.Forms.{sole}
use Rattle.c_scopes.specs.Scopes.{OpenScopes}
use Rattle.reading.specs.declared.turn.Turn.{Turn}
use Rattle.reading.specs.declared.turn.Turn.TheVariants.{Again, Done}
use Rattle.reading.specs.Terminals.{are_disjoint}
use Rattle.reading.proofs.Sets.{within_itself, within_left, within_right}
use Rattle.reading.proofs.ReadBy.{Stage, no, keeping, read_pure, read_weaker, read_given}
use Rattle.reading.proofs.ReadOne.{HasRoom, room_inside}
use Rattle.reading.proofs.ReadThen.{read_then, read_token, read_map}
use Rattle.reading.proofs.ReadEither.{read_either, read_optional}
use Rattle.reading.proofs.ReadTurns.{Ending, by_turn, read_repeat}
use Rattle.reading.proofs.ReadGuarded.{read_guarded}
use Rattle.c_reading.specs.Terminals.{mark, key}
use Rattle.c_reading.specs.Cursors.{number_of}
use Rattle.c_syntax.specs.Sets.{any_name, a_typedef_name, a_basic_type}
use Rattle.c_specifiers.specs.Words.{NamedToken}
use Rattle.c_syntax.specs.declared.forms.AssignForm.TheVariants.{Constant}
use Rattle.c_specifiers.specs.declared.forms.Place.{Place}
use Rattle.c_specifiers.specs.declared.forms.Place.TheVariants.{Ordinary, Definition, Parameter, Member, Nameless}
use Rattle.c_specifiers.specs.declared.forms.Specified.{Specified}
use Rattle.c_specifiers.specs.declared.forms.NamedEnumerator.{NamedEnumerator}
use Rattle.c_specifiers.specs.declared.forms.Members.{Members}
use Rattle.c_specifiers.specs.declared.forms.Enumerators.{Enumerators}
use Rattle.c_syntax.specs.Sets.{a_plain_qualifier, a_record, begins_specifier}
use Rattle.c_specifiers.specs.DeclarationSets.{a_storage_class, a_function_specifier}
use Rattle.c_specifiers.specs.DeclarationSets.{begins_modifier, begins_word, begins_specifiers}
use Rattle.c_specifiers.specs.DeclarationSteps.{with_name}
use Rattle.c_specifiers.specs.SpecifierForms.{no_specifiers, with_spec, with_typedef, with_atomic, first_member, with_member, members_to}
use Rattle.c_specifiers.specs.SpecifierForms.{named_enumerator, first_enumerator, with_enumerator, enumerators_to}
use Rattle.c_specifiers.specs.Inside.{Inside, InsideReaders}
use Rattle.c_specifiers.specs.SpecifierRules as lang
use Rattle.c_specifiers.specs.SpecifierReaders as read
use Rattle.reading.proofs.ReadChanging.{read_changing}
use Rattle.reading.proofs.ReadSteps.{read_many_by_value}
use Rattle.c_specifiers.proofs.DeclarationReadings.{Tokens, IsRead, InsideAreRead, sample, fixed, nothing, brace, paren}
use Rattle.c_syntax.specs.Sets.{begins_assign}
use Rattle.c_specifiers.proofs.DeclarationReadings.{after_word, after_specifiers, after_enumerator, begins_member}

-- ---- Sets at each place

pub brace_apart : (place : Place) → are_disjoint brace (begins_word place) ≡ true
brace_apart Ordinary = refl
brace_apart Definition = refl
brace_apart Parameter = refl
brace_apart Member = refl
brace_apart Nameless = refl

paren_apart : (place : Place) → are_disjoint paren (begins_specifiers place) ≡ true
paren_apart Ordinary = refl
paren_apart Definition = refl
paren_apart Parameter = refl
paren_apart Member = refl
paren_apart Nameless = refl

word_apart_at : (atomic : Bool) (words : List Spec) (typedef : Bool) (place : Place) → are_disjoint (after_word (record { words = words; typedef = typedef; atomic = atomic })) (begins_word place) ≡ true
word_apart_at true words typedef Ordinary = refl
word_apart_at true words typedef Definition = refl
word_apart_at true words typedef Parameter = refl
word_apart_at true words typedef Member = refl
word_apart_at true words typedef Nameless = refl
word_apart_at false words typedef Ordinary = refl
word_apart_at false words typedef Definition = refl
word_apart_at false words typedef Parameter = refl
word_apart_at false words typedef Member = refl
word_apart_at false words typedef Nameless = refl

word_apart : (specified : Specified) (place : Place) → are_disjoint (after_word specified) (begins_word place) ≡ true
word_apart specified place = word_apart_at specified.atomic specified.words specified.typedef place

names_apart : (place : Place) → are_disjoint (key KEY_ATOMIC ∷ begins_specifier ++ begins_modifier place) a_typedef_name ≡ true
names_apart Ordinary = refl
names_apart Definition = refl
names_apart Parameter = refl
names_apart Member = refl
names_apart Nameless = refl

atomic_apart : (place : Place) → are_disjoint (begins_specifier ++ begins_modifier place) (key KEY_ATOMIC ∷ []) ≡ true
atomic_apart Ordinary = refl
atomic_apart Definition = refl
atomic_apart Parameter = refl
atomic_apart Member = refl
atomic_apart Nameless = refl

types_apart : (place : Place) → are_disjoint (begins_modifier place) begins_specifier ≡ true
types_apart Ordinary = refl
types_apart Definition = refl
types_apart Parameter = refl
types_apart Member = refl
types_apart Nameless = refl

module _ (tokens : Tokens) {stage : Stage} {level room : ℕ} (fits : HasRoom stage level room) (inner : ℕ → Inside) (readers : InsideReaders)
    (ri : InsideAreRead tokens stage (0 < room) inner readers) where
  deeper : HasRoom stage (suc level) (room - 1)
  deeper = room_inside fits

  there : 0 < room - 1 → 0 < room
  there h = omega arith

  -- ---- Alignment (6.7.5)

  pub aligned_like_is_read : (specified : Specified) (marks : List ℕ) → IsRead tokens stage (0 < room - 1) (λ d. lang.aligned_like d level (inner d) specified marks) (read.aligned_like room readers specified marks) no (begins_specifiers Nameless) nothing
  unfolding lang.aligned_like read.aligned_like
  aligned_like_is_read specified marks =
      read_then nothing (read_given there ri.type_name)
      (λ t. read_token deeper (sample tokens (mark MARK_RIGHT_PAREN ∷ []) (Mark MARK_RIGHT_PAREN) refl refl refl) (λ r. read_pure (with_spec specified (spec.AlignType t (marks ++ r ∷ []))))) (λ a. refl) (λ b. refl) (λ a b. refl)

  pub aligned_to_is_read : (specified : Specified) (marks : List ℕ) → IsRead tokens stage (0 < room - 1) (λ d. lang.aligned_to d level (inner d) specified marks) (read.aligned_to room readers specified marks) no (begins_assign Constant) nothing
  unfolding lang.aligned_to read.aligned_to
  aligned_to_is_read specified marks =
      read_then nothing (read_given there (ri.assign Constant))
      (λ v. read_token deeper (sample tokens (mark MARK_RIGHT_PAREN ∷ []) (Mark MARK_RIGHT_PAREN) refl refl refl) (λ r. read_pure (with_spec specified (spec.AlignExpr (sole v) (marks ++ r ∷ []))))) (λ a. refl) (λ b. refl) (λ a b. refl)

  pub aligned_is_read : {given : Type 0} (specified : Specified) → IsRead tokens stage given (λ d. lang.aligned d level (inner d) specified) (read.aligned room readers specified) no (key KEY_ALIGNAS ∷ []) nothing
  unfolding lang.aligned read.aligned
  aligned_is_read specified =
      read_token fits (sample tokens (key KEY_ALIGNAS ∷ []) (Key KEY_ALIGNAS) refl refl refl)
      (λ k. read_token deeper (sample tokens (mark MARK_LEFT_PAREN ∷ []) (Mark MARK_LEFT_PAREN) refl refl refl) (λ l. read_either (aligned_like_is_read specified (k ∷ l ∷ [])) (aligned_to_is_read specified (k ∷ l ∷ [])) refl))

  -- ---- Specifiers that are no type specifiers

  pub typedef_word_is_read : {given : Type 0} (specified : Specified) → IsRead tokens stage given (λ d. lang.typedef_word d level (inner d) specified) (read.typedef_word room readers specified) no (key KEY_TYPEDEF ∷ []) nothing
  unfolding lang.typedef_word read.typedef_word
  typedef_word_is_read specified =
      read_token fits (sample tokens (key KEY_TYPEDEF ∷ []) (Key KEY_TYPEDEF) refl refl refl) (λ k. read_pure (with_typedef specified k))

  pub storage_word_is_read : {given : Type 0} (specified : Specified) → IsRead tokens stage given (λ d. lang.storage_word d level (inner d) specified) (read.storage_word room readers specified) no a_storage_class nothing
  unfolding lang.storage_word read.storage_word
  storage_word_is_read specified =
      read_token fits (sample tokens a_storage_class (Key KEY_EXTERN) refl refl refl) (λ k. read_pure (with_spec specified (spec.Storage k)))

  pub register_word_is_read : {given : Type 0} (specified : Specified) → IsRead tokens stage given (λ d. lang.register_word d level (inner d) specified) (read.register_word room readers specified) no (key KEY_REGISTER ∷ []) nothing
  unfolding lang.register_word read.register_word
  register_word_is_read specified =
      read_token fits (sample tokens (key KEY_REGISTER ∷ []) (Key KEY_REGISTER) refl refl refl) (λ k. read_pure (with_spec specified (spec.Storage k)))

  pub function_word_is_read : {given : Type 0} (specified : Specified) → IsRead tokens stage given (λ d. lang.function_word d level (inner d) specified) (read.function_word room readers specified) no a_function_specifier nothing
  unfolding lang.function_word read.function_word
  function_word_is_read specified =
      read_token fits (sample tokens a_function_specifier (Key KEY_INLINE) refl refl refl) (λ k. read_pure (with_spec specified (spec.Function k)))

  pub qualifier_word_is_read : {given : Type 0} (specified : Specified) → IsRead tokens stage given (λ d. lang.qualifier_word d level (inner d) specified) (read.qualifier_word room readers specified) no a_plain_qualifier nothing
  unfolding lang.qualifier_word read.qualifier_word
  qualifier_word_is_read specified =
      read_token fits (sample tokens a_plain_qualifier (Key KEY_CONST) refl refl refl) (λ k. read_pure (with_spec specified (spec.Qualifier k)))

  pub aligned_modifier_is_read : {given : Type 0} (specified : Specified) → IsRead tokens stage given (λ d. lang.aligned_modifier d level (inner d) specified) (read.aligned_modifier room readers specified) no (begins_modifier Member) nothing
  unfolding lang.aligned_modifier read.aligned_modifier
  aligned_modifier_is_read specified =
      read_either (aligned_is_read specified) (qualifier_word_is_read specified) refl

  pub function_modifier_is_read : {given : Type 0} (specified : Specified) → IsRead tokens stage given (λ d. lang.function_modifier d level (inner d) specified) (read.function_modifier room readers specified) no (a_function_specifier ++ begins_modifier Member) nothing
  unfolding lang.function_modifier read.function_modifier
  function_modifier_is_read specified =
      read_either (function_word_is_read specified) (aligned_modifier_is_read specified) refl

  pub definition_modifier_is_read : {given : Type 0} (specified : Specified) → IsRead tokens stage given (λ d. lang.definition_modifier d level (inner d) specified) (read.definition_modifier room readers specified) no (begins_modifier Definition) nothing
  unfolding lang.definition_modifier read.definition_modifier
  definition_modifier_is_read specified =
      read_either (storage_word_is_read specified) (function_modifier_is_read specified) refl

  pub ordinary_modifier_is_read : {given : Type 0} (specified : Specified) → IsRead tokens stage given (λ d. lang.ordinary_modifier d level (inner d) specified) (read.ordinary_modifier room readers specified) no (begins_modifier Ordinary) nothing
  unfolding lang.ordinary_modifier read.ordinary_modifier
  ordinary_modifier_is_read specified =
      read_either (typedef_word_is_read specified) (definition_modifier_is_read specified) refl

  pub parameter_modifier_is_read : {given : Type 0} (specified : Specified) → IsRead tokens stage given (λ d. lang.parameter_modifier d level (inner d) specified) (read.parameter_modifier room readers specified) no (begins_modifier Parameter) nothing
  unfolding lang.parameter_modifier read.parameter_modifier
  parameter_modifier_is_read specified =
      read_either (register_word_is_read specified) (function_modifier_is_read specified) refl

  modifier_is_read : {given : Type 0} (place : Place) (specified : Specified) →
      IsRead tokens stage given (λ d. lang.modifier d level (inner d) place specified) (read.modifier room readers place specified) no (begins_modifier place) nothing
  modifier_is_read Ordinary specified = ordinary_modifier_is_read specified
  modifier_is_read Definition specified = definition_modifier_is_read specified
  modifier_is_read Parameter specified = parameter_modifier_is_read specified
  modifier_is_read Member specified = aligned_modifier_is_read specified
  modifier_is_read Nameless specified = qualifier_word_is_read specified

  -- ---- Structures and unions (6.7.2.1)

  pub last_member_is_read : {given : Type 0} (members : Members) → IsRead tokens stage given (λ d. lang.last_member d level (inner d) members) (read.last_member room readers members) no (mark MARK_RIGHT_BRACE ∷ []) (by_turn [] nothing)
  unfolding lang.last_member read.last_member
  last_member_is_read members =
      read_weaker (by_turn [] nothing) (λ g. g) (λ a. refl) (read_token deeper (sample tokens (mark MARK_RIGHT_BRACE ∷ []) (Mark MARK_RIGHT_BRACE) refl refl refl) (λ r. read_pure (Done (members_to members r))))

  pub next_member_is_read : (members : Members) → IsRead tokens stage (0 < room - 1) (λ d. lang.next_member d level (inner d) members) (read.next_member room readers members) no begins_member (by_turn [] nothing)
  unfolding lang.next_member read.next_member
  next_member_is_read members =
      read_map (λ m. Again (with_member members m)) (by_turn [] nothing) (read_given there ri.member) (λ a. refl)

  pub member_turn_is_read : (members : Members) → IsRead tokens stage (0 < room - 1) (λ d. lang.member_turn d level (inner d) members) (read.member_turn room readers members) no (mark MARK_RIGHT_BRACE ∷ begins_member) (by_turn [] nothing)
  unfolding lang.member_turn read.member_turn
  member_turn_is_read members =
      read_either (last_member_is_read members) (next_member_is_read members) refl

  member_turn_ends : (members : Members) (scopes : OpenScopes) → Ending tokens.IsToken (λ d. lang.member_turn d level (inner d) members) scopes
  unfolding lang.member_turn lang.last_member
  member_turn_ends members scopes =
      let t = (sample tokens (mark MARK_RIGHT_BRACE ∷ []) (Mark MARK_RIGHT_BRACE) refl refl refl) scopes in record {
        word = (t.token, suc level) ∷ [];
        value = members_to members t.token.number;
        scope' = scopes;
        turns = 0;
        lexemes = (t.lexeme, tt);
        is = λ n h. inl (record {
          front = (t.token, suc level) ∷ [];
          back = [];
          value = (t.token.number, scopes);
          split = refl;
          begin = record { token = t.token; is = refl; fits = t.fits; value = refl };
          rest = record { none = refl; same = refl };
        });
      }

  pub all_members_is_read : (members : Members) → IsRead tokens stage (0 < room - 1) (λ d. lang.all_members d level (inner d) members) (read.all_members room readers members) no (mark MARK_RIGHT_BRACE ∷ begins_member) nothing
  unfolding lang.all_members read.all_members
  all_members_is_read members =
      read_repeat [] nothing member_turn_is_read refl member_turn_ends members

  pub record_body_is_read : {given : Type 0} → IsRead tokens stage given (λ d. lang.record_body d level (inner d)) (read.record_body room readers) no brace nothing
  unfolding lang.record_body read.record_body
  record_body_is_read =
      read_token deeper (sample tokens (mark MARK_LEFT_BRACE ∷ []) (Mark MARK_LEFT_BRACE) refl refl refl) (λ l. read_then nothing (read_given there ri.member) (λ m. all_members_is_read (first_member m l)) (λ a. refl) (λ b. refl) (λ a b. refl))

  pub record_with_is_read : {given : Type 0} (key_ : ℕ) (tag : Option ℕ) → IsRead tokens stage given (λ d. lang.record_with d level (inner d) key_ tag) (read.record_with room readers key_ tag) no brace (λ s. brace)
  unfolding lang.record_with read.record_with
  record_with_is_read key_ tag =
      read_map (λ (body : Members). spec.Record key_ tag (Some body.list) body.marks) (λ s. brace) record_body_is_read (λ a. refl)

  pub tagged_record_is_read : {given : Type 0} (key_ : ℕ) → IsRead tokens stage given (λ d. lang.tagged_record d level (inner d) key_) (read.tagged_record room readers key_) no any_name (λ s. brace)
  unfolding lang.tagged_record read.tagged_record
  tagged_record_is_read key_ =
      read_token fits (sample tokens any_name Word refl refl refl) (λ t. read_optional (λ s. brace) (spec.Record key_ (Some t) None []) (record_with_is_read key_ (Some t)) (λ a. refl) refl)

  pub record_spec_is_read : {given : Type 0} → IsRead tokens stage given (λ d. lang.record_spec d level (inner d)) (read.record_spec room readers) no a_record (λ s. brace)
  unfolding lang.record_spec read.record_spec
  record_spec_is_read =
      read_token fits (sample tokens a_record (Key KEY_STRUCT) refl refl refl) (λ k. read_either (tagged_record_is_read k) (record_with_is_read k None) refl)

  pub record_word_is_read : {given : Type 0} (specified : Specified) → IsRead tokens stage given (λ d. lang.record_word d level (inner d) specified) (read.record_word room readers specified) no a_record (λ s. brace)
  unfolding lang.record_word read.record_word
  record_word_is_read specified =
      read_map (with_spec specified) (λ s. brace) record_spec_is_read (λ a. refl)

  -- ---- Enumerations (6.7.2.2)

  pub enumerator_value_is_read : {given : Type 0} (word : NamedToken) → IsRead tokens stage given (λ d. lang.enumerator_value d level (inner d) word) (read.enumerator_value room readers word) no (mark MARK_EQUAL ∷ []) (λ n. after_enumerator)
  unfolding lang.enumerator_value read.enumerator_value
  enumerator_value_is_read word =
      read_token deeper (sample tokens (mark MARK_EQUAL ∷ []) (Mark MARK_EQUAL) refl refl refl)
      (λ e. read_map (λ v. named_enumerator word (Some v) (e ∷ [])) (λ n. after_enumerator) (read_given there (ri.assign Constant)) (λ a. refl))

  pub undeclared_enumerator_is_read : {given : Type 0} → IsRead tokens stage given (λ d. lang.undeclared_enumerator d level (inner d)) (read.undeclared_enumerator room readers) no any_name (λ n. after_enumerator)
  unfolding lang.undeclared_enumerator read.undeclared_enumerator
  undeclared_enumerator_is_read =
      read_token deeper (sample tokens any_name Word refl refl refl) (λ w. read_optional (λ n. after_enumerator) (named_enumerator w None []) (enumerator_value_is_read w) (λ a. refl) refl)

  pub enumerator_is_read : {given : Type 0} → IsRead tokens stage given (λ d. lang.enumerator d level (inner d)) (read.enumerator room readers) no any_name (λ e. after_enumerator)
  unfolding lang.enumerator read.enumerator
  enumerator_is_read =
      read_changing (λ (n : NamedEnumerator). with_name (Some n.name) false) (λ (n : NamedEnumerator). n.enumerator) (λ e. after_enumerator) undeclared_enumerator_is_read (λ a. fixed after_enumerator refl) (λ a. refl)

  pub last_enumerator_is_read : {given : Type 0} (enumerators : Enumerators) → IsRead tokens stage given (λ d. lang.last_enumerator d level (inner d) enumerators) (read.last_enumerator room readers enumerators) no (mark MARK_RIGHT_BRACE ∷ []) (by_turn after_enumerator nothing)
  unfolding lang.last_enumerator read.last_enumerator
  last_enumerator_is_read enumerators =
      read_weaker (by_turn after_enumerator nothing) (λ g. g) (λ a. refl) (read_token deeper (sample tokens (mark MARK_RIGHT_BRACE ∷ []) (Mark MARK_RIGHT_BRACE) refl refl refl) (λ r. read_pure (Done (enumerators_to enumerators r))))

  pub next_enumerator_is_read : {given : Type 0} (enumerators : Enumerators) → IsRead tokens stage given (λ d. lang.next_enumerator d level (inner d) enumerators) (read.next_enumerator room readers enumerators) no any_name (by_turn after_enumerator nothing)
  unfolding lang.next_enumerator read.next_enumerator
  next_enumerator_is_read enumerators =
      read_map (λ e. Again (with_enumerator enumerators e)) (by_turn after_enumerator nothing) enumerator_is_read (λ a. refl)

  pub comma_enumerator_is_read : {given : Type 0} (enumerators : Enumerators) → IsRead tokens stage given (λ d. lang.comma_enumerator d level (inner d) enumerators) (read.comma_enumerator room readers enumerators) no (mark MARK_COMMA ∷ []) (by_turn after_enumerator nothing)
  unfolding lang.comma_enumerator read.comma_enumerator
  comma_enumerator_is_read enumerators =
      read_token deeper (sample tokens (mark MARK_COMMA ∷ []) (Mark MARK_COMMA) refl refl refl)
      (λ c. read_either (last_enumerator_is_read (enumerators_to enumerators c)) (next_enumerator_is_read (enumerators_to enumerators c)) refl)

  pub enumerator_turn_is_read : {given : Type 0} (enumerators : Enumerators) → IsRead tokens stage given (λ d. lang.enumerator_turn d level (inner d) enumerators) (read.enumerator_turn room readers enumerators) no (mark MARK_COMMA ∷ mark MARK_RIGHT_BRACE ∷ []) (by_turn after_enumerator nothing)
  unfolding lang.enumerator_turn read.enumerator_turn
  enumerator_turn_is_read enumerators =
      read_either (comma_enumerator_is_read enumerators) (last_enumerator_is_read enumerators) refl

  enumerator_turn_ends : (enumerators : Enumerators) (scopes : OpenScopes) → Ending tokens.IsToken (λ d. lang.enumerator_turn d level (inner d) enumerators) scopes
  unfolding lang.enumerator_turn lang.last_enumerator
  enumerator_turn_ends enumerators scopes =
      let t = (sample tokens (mark MARK_RIGHT_BRACE ∷ []) (Mark MARK_RIGHT_BRACE) refl refl refl) scopes in record {
        word = (t.token, suc level) ∷ [];
        value = enumerators_to enumerators t.token.number;
        scope' = scopes;
        turns = 0;
        lexemes = (t.lexeme, tt);
        is = λ n h. inr (record {
          front = (t.token, suc level) ∷ [];
          back = [];
          value = (t.token.number, scopes);
          split = refl;
          begin = record { token = t.token; is = refl; fits = t.fits; value = refl };
          rest = record { none = refl; same = refl };
        });
      }

  pub all_enumerators_is_read : {given : Type 0} (enumerators : Enumerators) → IsRead tokens stage given (λ d. lang.all_enumerators d level (inner d) enumerators) (read.all_enumerators room readers enumerators) no (mark MARK_COMMA ∷ mark MARK_RIGHT_BRACE ∷ []) nothing
  unfolding lang.all_enumerators read.all_enumerators
  all_enumerators_is_read enumerators =
      read_repeat after_enumerator nothing enumerator_turn_is_read refl enumerator_turn_ends enumerators

  pub enumeration_body_is_read : {given : Type 0} → IsRead tokens stage given (λ d. lang.enumeration_body d level (inner d)) (read.enumeration_body room readers) no brace nothing
  unfolding lang.enumeration_body read.enumeration_body
  enumeration_body_is_read =
      read_token deeper (sample tokens (mark MARK_LEFT_BRACE ∷ []) (Mark MARK_LEFT_BRACE) refl refl refl) (λ l. read_then nothing enumerator_is_read (λ e. all_enumerators_is_read (first_enumerator e l)) (λ a. refl) (λ b. refl) (λ a b. refl))

  pub enumeration_with_is_read : {given : Type 0} (key_ : ℕ) (tag : Option ℕ) → IsRead tokens stage given (λ d. lang.enumeration_with d level (inner d) key_ tag) (read.enumeration_with room readers key_ tag) no brace (λ s. brace)
  unfolding lang.enumeration_with read.enumeration_with
  enumeration_with_is_read key_ tag =
      read_map (λ (body : Enumerators). spec.Enumeration key_ tag (Some body.list) body.marks) (λ s. brace) enumeration_body_is_read (λ a. refl)

  pub tagged_enumeration_is_read : {given : Type 0} (key_ : ℕ) → IsRead tokens stage given (λ d. lang.tagged_enumeration d level (inner d) key_) (read.tagged_enumeration room readers key_) no any_name (λ s. brace)
  unfolding lang.tagged_enumeration read.tagged_enumeration
  tagged_enumeration_is_read key_ =
      read_token fits (sample tokens any_name Word refl refl refl) (λ t. read_optional (λ s. brace) (spec.Enumeration key_ (Some t) None []) (enumeration_with_is_read key_ (Some t)) (λ a. refl) refl)

  pub enumeration_spec_is_read : {given : Type 0} → IsRead tokens stage given (λ d. lang.enumeration_spec d level (inner d)) (read.enumeration_spec room readers) no (key KEY_ENUM ∷ []) (λ s. brace)
  unfolding lang.enumeration_spec read.enumeration_spec
  enumeration_spec_is_read =
      read_token fits (sample tokens (key KEY_ENUM ∷ []) (Key KEY_ENUM) refl refl refl) (λ k. read_either (tagged_enumeration_is_read k) (enumeration_with_is_read k None) refl)

  pub enumeration_word_is_read : {given : Type 0} (specified : Specified) → IsRead tokens stage given (λ d. lang.enumeration_word d level (inner d) specified) (read.enumeration_word room readers specified) no (key KEY_ENUM ∷ []) (λ s. brace)
  unfolding lang.enumeration_word read.enumeration_word
  enumeration_word_is_read specified =
      read_map (with_spec specified) (λ s. brace) enumeration_spec_is_read (λ a. refl)

  -- ---- Type specifiers (6.7.2)

  pub basic_word_is_read : {given : Type 0} (specified : Specified) → IsRead tokens stage given (λ d. lang.basic_word d level (inner d) specified) (read.basic_word room readers specified) no a_basic_type (λ s. brace)
  unfolding lang.basic_word read.basic_word
  basic_word_is_read specified =
      read_weaker (λ s. brace) (λ g. g) (λ a. refl) (read_token fits (sample tokens a_basic_type (Key KEY_INT) refl refl refl) (λ k. read_pure (with_spec specified (spec.Basic k))))

  pub type_word_is_read : {given : Type 0} (specified : Specified) → IsRead tokens stage given (λ d. lang.type_word d level (inner d) specified) (read.type_word room readers specified) no begins_specifier (λ s. brace)
  unfolding lang.type_word read.type_word
  type_word_is_read specified =
      read_either (basic_word_is_read specified) (read_either (record_word_is_read specified) (enumeration_word_is_read specified) refl) refl

  pub atomic_type_is_read : {given : Type 0} (specified : Specified) (key_ : ℕ) → IsRead tokens stage given (λ d. lang.atomic_type d level (inner d) specified key_) (read.atomic_type room readers specified key_) no paren nothing
  unfolding lang.atomic_type read.atomic_type
  atomic_type_is_read specified key_ =
      read_token deeper (sample tokens (mark MARK_LEFT_PAREN ∷ []) (Mark MARK_LEFT_PAREN) refl refl refl)
      (λ l. read_then nothing (read_given there ri.type_name)
      (λ t. read_token deeper (sample tokens (mark MARK_RIGHT_PAREN ∷ []) (Mark MARK_RIGHT_PAREN) refl refl refl) (λ r. read_pure (with_spec specified (spec.Atomic t (key_ ∷ l ∷ r ∷ []))))) (λ a. refl) (λ b. refl) (λ a b. refl))

  -- ---- Up to the first type specifier

  abbrev after_untyped : Turn Specified Specified → List ℕ
  after_untyped = by_turn paren (λ s. brace)

  pub atomic_type_turn_is_read : {given : Type 0} (specified : Specified) (key_ : ℕ) → IsRead tokens stage given (λ d. lang.atomic_type_turn d level (inner d) specified key_) (read.atomic_type_turn room readers specified key_) no paren after_untyped
  unfolding lang.atomic_type_turn read.atomic_type_turn
  atomic_type_turn_is_read specified key_ =
      read_map (λ t. Done t) after_untyped (atomic_type_is_read specified key_) (λ a. refl)

  pub atomic_turn_is_read : {given : Type 0} (specified : Specified) → IsRead tokens stage given (λ d. lang.atomic_turn d level (inner d) specified) (read.atomic_turn room readers specified) no (key KEY_ATOMIC ∷ []) after_untyped
  unfolding lang.atomic_turn read.atomic_turn
  atomic_turn_is_read specified =
      read_token fits (sample tokens (key KEY_ATOMIC ∷ []) (Key KEY_ATOMIC) refl refl refl) (λ k. read_optional after_untyped (Again (with_atomic specified k)) (atomic_type_turn_is_read specified k) (λ a. within_itself (after_untyped a)) refl)

  pub type_turn_is_read : {given : Type 0} (specified : Specified) → IsRead tokens stage given (λ d. lang.type_turn d level (inner d) specified) (read.type_turn room readers specified) no begins_specifier after_untyped
  unfolding lang.type_turn read.type_turn
  type_turn_is_read specified =
      read_map (λ t. Done t) after_untyped (type_word_is_read specified) (λ a. refl)

  pub modifier_turn_is_read : {given : Type 0} (place : Place) (specified : Specified) → IsRead tokens stage given (λ d. lang.modifier_turn d level (inner d) place specified) (read.modifier_turn room readers place specified) no (begins_modifier place) after_untyped
  unfolding lang.modifier_turn read.modifier_turn
  modifier_turn_is_read place specified =
      read_map (λ t. Again t) after_untyped (modifier_is_read place specified) (λ a. refl)

  untyped_turn_is_read : {given : Type 0} (place : Place) (specified : Specified) →
      IsRead tokens stage given (λ d. lang.untyped_turn d level (inner d) place specified) (read.untyped_turn room readers place specified) no (begins_specifiers place) after_untyped
  unfolding lang.untyped_turn read.untyped_turn lang.typedef_name_turn read.typedef_name_turn
  untyped_turn_is_read place specified =
      read_guarded a_typedef_name number_of after_untyped fits (λ n. read_pure (Done (with_spec specified (spec.Named n))))
      (read_either (atomic_turn_is_read specified) (read_either (type_turn_is_read specified) (modifier_turn_is_read place specified) (types_apart place)) (atomic_apart place))
      (names_apart place) (λ a. refl) (λ a. within_itself (after_untyped a)) (λ d scope end y. refl)

  untyped_turn_ends : (place : Place) (specified : Specified) (scopes : OpenScopes) → Ending tokens.IsToken (λ d. lang.untyped_turn d level (inner d) place specified) scopes
  unfolding lang.untyped_turn lang.type_turn lang.type_word lang.basic_word
  untyped_turn_ends place specified scopes =
      let t = (sample tokens a_basic_type (Key KEY_INT) refl refl refl) scopes in record {
        word = (t.token, level) ∷ [];
        value = with_spec specified (spec.Basic t.token.number);
        scope' = scopes;
        turns = 0;
        lexemes = (t.lexeme, tt);
        is = λ n h. inr (inr (inl (record {
          front = (t.token, level) ∷ [];
          back = [];
          value = (with_spec specified (spec.Basic t.token.number), scopes);
          split = refl;
          begin = inl (record {
            front = (t.token, level) ∷ [];
            back = [];
            value = (t.token.number, scopes);
            split = refl;
            begin = record { token = t.token; is = refl; fits = t.fits; value = refl };
            rest = record { none = refl; same = refl };
          });
          rest = record { none = refl; same = refl };
        })));
      }

  pub up_to_type_is_read : {given : Type 0} (place : Place) → IsRead tokens stage given (λ d. lang.up_to_type d level (inner d) place) (read.up_to_type room readers place) no (begins_specifiers place) (λ s. brace)
  unfolding lang.up_to_type read.up_to_type
  up_to_type_is_read place =
      read_repeat paren (λ s. brace) (untyped_turn_is_read place) (paren_apart place) (untyped_turn_ends place) no_specifiers

  -- ---- Behind it

  pub atomic_word_is_read : {given : Type 0} (specified : Specified) → IsRead tokens stage given (λ d. lang.atomic_word d level (inner d) specified) (read.atomic_word room readers specified) no (key KEY_ATOMIC ∷ []) after_word
  unfolding lang.atomic_word read.atomic_word
  atomic_word_is_read specified =
      read_token fits (sample tokens (key KEY_ATOMIC ∷ []) (Key KEY_ATOMIC) refl refl refl) (λ k. read_optional after_word (with_atomic specified k) (atomic_type_is_read specified k) (λ a. refl) refl)

  pub more_words_is_read : {given : Type 0} (place : Place) (specified : Specified) → IsRead tokens stage given (λ d. lang.more_words d level (inner d) place specified) (read.more_words room readers place specified) no (begins_word place) after_word
  unfolding lang.more_words read.more_words
  more_words_is_read place specified =
      read_either (atomic_word_is_read specified)
      (read_either (read_weaker after_word (λ g. g) (λ a. refl) (type_word_is_read specified)) (read_weaker after_word (λ g. g) (λ a. refl) (modifier_is_read place specified)) (types_apart place))
      (atomic_apart place)

  pub all_words_is_read : {given : Type 0} (place : Place) (specified : Specified) → IsRead tokens stage given (λ d. lang.all_words d level (inner d) place specified) (read.all_words room readers place specified) keeping (begins_word place) (after_specifiers place)
  unfolding lang.all_words read.all_words
  all_words_is_read place specified =
      read_many_by_value after_word (after_specifiers place) (more_words_is_read place) (λ s. word_apart s place)
      (λ s. within_left (after_word s) (begins_word place)) (λ s. within_right (after_word s) (begins_word place)) specified

  pub specifiers_is_read : {given : Type 0} (place : Place) → IsRead tokens stage given (λ d. lang.specifiers d level (inner d) place) (read.specifiers room readers place) no (begins_specifiers place) (after_specifiers place)
  unfolding lang.specifiers read.specifiers
  specifiers_is_read place =
      read_then (after_specifiers place) (up_to_type_is_read place) (all_words_is_read place) (λ a. brace_apart place) (λ b. within_itself (after_specifiers place b)) (λ a b. refl)
