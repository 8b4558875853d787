-- Declarations, members and static assertions are read exactly (C11 6.7, 6.7.2.1, 6.7.10), a term a rule.

use Rattle.std.proofs.Common.{◌≡◌, inr, ℕ, suc, ◌-◌, ◌<◌, Bool, true, false, List, [], ◌∷◌, ◌++◌, refl, arith}
use Rattle.c_lexer.specs.declared.token.Kind.TheVariants.{Key, Text, Mark}
use Rattle.c_lexer.specs.declared.keyword.TheConstants.{KEY_STATIC_ASSERT}
use Rattle.c_lexer.specs.declared.mark.TheConstants.{MARK_LEFT_PAREN, MARK_RIGHT_PAREN, MARK_COMMA}
use Rattle.c_lexer.specs.declared.mark.TheConstants.{MARK_COLON, MARK_SEMICOLON, MARK_EQUAL, MARK_STAR}
use Rattle.c_tree.specs.declared.tree.Assign.{Assign}
use Rattle.c_tree.specs.declared.tree.Spec.{Spec}
use Rattle.c_tree.specs.declared.tree.Declaration.TheVariants as declaration_
use Rattle.c_tree.specs.Forms.{sole}
use Rattle.c_scopes.specs.Scopes.{OpenScopes}
use Rattle.reading.specs.declared.turn.Turn.TheVariants.{Again, Done}
use Rattle.reading.specs.Terminals.{are_disjoint}
use Rattle.reading.proofs.ReadBy.{Stage, no, keeping, read_pure, read_weaker, read_given}
use Rattle.reading.proofs.ReadOne.{HasRoom, room_inside}
use Rattle.reading.proofs.ReadThen.{read_then, read_token, read_map}
use Rattle.reading.proofs.ReadEither.{read_either, read_optional}
use Rattle.reading.proofs.ReadSteps.{read_many_tokens}
use Rattle.reading.proofs.ReadTurns.{Ending, by_turn, read_repeat}
use Rattle.c_reading.specs.Terminals.{TEXT, mark, key}
use Rattle.c_reading.specs.Cursors.{number_of}
use Rattle.c_syntax.specs.Scoping.{Part, PartReader}
use Rattle.c_syntax.specs.declared.forms.AssignForm.TheVariants.{Whole, Constant}
use Rattle.c_specifiers.specs.declared.forms.Place.TheVariants.{Ordinary, Member}
use Rattle.c_specifiers.specs.declared.forms.Named.{Named}
use Rattle.c_declarations.specs.declared.forms.Declarators.{Declarators}
use Rattle.c_specifiers.specs.DeclarationSets.{begins_specifiers, begins_suffix, begins_named}
use Rattle.c_specifiers.specs.DeclarationSteps.{with_name}
use Rattle.c_declarators.specs.DeclaratorForms.{no_pointers, unnamed_of}
use Rattle.c_declarations.specs.DeclarationForms.{with_width, undefined, defined, no_declarators, with_declarator, declarators_to, names_of}
use Rattle.c_specifiers.specs.Inside.{Inside, InsideReaders}
use Rattle.c_declarations.specs.DeclarationRules as lang
use Rattle.c_declarations.specs.DeclarationReaders as read
use Rattle.reading.proofs.ReadChanging.{read_changing}
use Rattle.c_syntax.specs.Sets.{begins_assign}
use Rattle.c_syntax.proofs.ExpressionsAreRead.{after_assign}
use Rattle.c_specifiers.proofs.DeclarationReadings.{Tokens, IsRead, InsideAreRead, sample, fixed, nothing, begins_member, after_specifiers}
use Rattle.c_specifiers.proofs.SpecifiersAreRead.{specifiers_is_read}
use Rattle.c_declarators.proofs.DeclaratorsAreRead.{declarator_is_read}
use Rattle.c_declarations.proofs.InitialisersAreRead.{initialiser_is_read}

-- ---- Sets behind `_Atomic` and elsewhere

abbrev semicolon : List ℕ
semicolon = mark MARK_SEMICOLON ∷ []

-- What begins a declarator with a name.
abbrev pub begins_declarator : Bool → List ℕ
begins_declarator atomic = mark MARK_STAR ∷ begins_named atomic

declarator_and_semicolon : (atomic : Bool) → are_disjoint (begins_declarator atomic) semicolon ≡ true
declarator_and_semicolon true = refl
declarator_and_semicolon false = refl

declarator_and_colon : (atomic : Bool) → are_disjoint (begins_declarator atomic) (mark MARK_COLON ∷ []) ≡ true
declarator_and_colon true = refl
declarator_and_colon false = refl

member_and_semicolon : (atomic : Bool) → are_disjoint (mark MARK_COLON ∷ begins_declarator atomic) semicolon ≡ true
member_and_semicolon true = refl
member_and_semicolon false = refl

names_apart_at : (atomic : Bool) (words : List Spec) (typedef : Bool) →
    are_disjoint (after_specifiers Ordinary (record { words = words; typedef = typedef; atomic = atomic })) (mark MARK_SEMICOLON ∷ begins_declarator atomic) ≡ true
names_apart_at true words typedef = refl
names_apart_at false words typedef = refl

members_apart_at : (atomic : Bool) (words : List Spec) (typedef : Bool) →
    are_disjoint (after_specifiers Member (record { words = words; typedef = typedef; atomic = atomic })) (mark MARK_SEMICOLON ∷ mark MARK_COLON ∷ begins_declarator atomic) ≡ true
members_apart_at true words typedef = refl
members_apart_at false words typedef = refl

-- What goes on behind a member's declarator, and behind a declarator with its initialiser.
abbrev after_member_declarator : List ℕ
after_member_declarator = mark MARK_COLON ∷ begins_suffix ++ after_assign

abbrev after_init_declarator : List ℕ
after_init_declarator = mark MARK_EQUAL ∷ begins_suffix ++ after_assign

module _ (tokens : Tokens) {stage : Stage} {level room : ℕ} (fits : HasRoom stage level room) (inner : ℕ → Inside) (readers : InsideReaders)
    (ri : InsideAreRead tokens stage (0 < room) inner readers) where
  deeper : HasRoom stage (suc level) (room - 1)
  deeper = room_inside fits

  there : 0 < room - 1 → 0 < room
  there h = omega arith

  -- ---- Static assertions (6.7.10)

  more_texts_is_read : {given : Type 0} (texts : List ℕ) →
      IsRead tokens stage given (λ d. lang.more_texts d level (inner d) texts) (read.more_texts room readers texts) keeping (TEXT ∷ []) (λ a. TEXT ∷ [])
  unfolding lang.more_texts lang.more_text read.more_texts read.more_text
  more_texts_is_read texts = read_many_tokens number_of [] (TEXT ∷ []) deeper (sample tokens (TEXT ∷ []) Text refl refl refl) (λ s n. read_pure (s ++ n ∷ [])) refl refl refl texts

  pub texts_is_read : {given : Type 0} → IsRead tokens stage given (λ d. lang.texts d level (inner d)) (read.texts room readers) no (TEXT ∷ []) (λ a. TEXT ∷ [])
  unfolding lang.texts read.texts
  texts_is_read =
      read_token deeper (sample tokens (TEXT ∷ []) Text refl refl refl) (λ t. more_texts_is_read (t ∷ []))

  pub assertion_is_read : {given : Type 0} → IsRead tokens stage given (λ d. lang.assertion d level (inner d)) (read.assertion room readers) no (key KEY_STATIC_ASSERT ∷ []) nothing
  unfolding lang.assertion read.assertion
  assertion_is_read =
      read_token fits (sample tokens (key KEY_STATIC_ASSERT ∷ []) (Key KEY_STATIC_ASSERT) refl refl refl)
      (λ k. read_token deeper (sample tokens (mark MARK_LEFT_PAREN ∷ []) (Mark MARK_LEFT_PAREN) refl refl refl)
      (λ l. read_then nothing (read_given there (ri.assign Constant))
      (λ v. read_token deeper (sample tokens (mark MARK_COMMA ∷ []) (Mark MARK_COMMA) refl refl refl)
      (λ c. read_then nothing texts_is_read
      (λ t. read_token deeper (sample tokens (mark MARK_RIGHT_PAREN ∷ []) (Mark MARK_RIGHT_PAREN) refl refl refl)
      (λ r. read_token fits (sample tokens (mark MARK_SEMICOLON ∷ []) (Mark MARK_SEMICOLON) refl refl refl) (λ s. read_pure (declaration_.Assert (sole v) t (k ∷ l ∷ c ∷ r ∷ s ∷ []))))) (λ a. refl) (λ b. refl) (λ a b. refl))) (λ a. refl) (λ b. refl) (λ a b. refl)))

  -- ---- Members (6.7.2.1)

  module _ (value : ℕ → Part Assign) (read_value : PartReader Assign) (rv : (given_v : Type 0) → IsRead tokens stage given_v value read_value no (begins_assign Constant) (λ a. after_assign)) where
    pub bit_field_is_read : {given : Type 0} (named : Named) → IsRead tokens stage given (λ d. lang.bit_field d level (inner d) (value d) named) (read.bit_field room readers read_value named) no (mark MARK_COLON ∷ []) (λ a. after_member_declarator)
    unfolding lang.bit_field read.bit_field
    bit_field_is_read named =
        read_token fits (sample tokens (mark MARK_COLON ∷ []) (Mark MARK_COLON) refl refl refl) (λ c. read_map (λ v. undefined (with_width named.declarator c v)) (λ a. after_member_declarator) (rv _) (λ a. refl))

    pub named_member_is_read : {given : Type 0} (atomic : Bool) → IsRead tokens stage given (λ d. lang.named_member d level (inner d) (value d) atomic) (read.named_member room readers read_value atomic) no (begins_declarator atomic) (λ a. after_member_declarator)
    unfolding lang.named_member read.named_member
    named_member_is_read atomic =
        read_then (λ a. after_member_declarator) (declarator_is_read tokens fits inner readers ri atomic)
        (λ n. read_optional (λ a. after_member_declarator) (undefined n.declarator) (bit_field_is_read n) (λ a. refl) refl) (λ a. refl) (λ b. refl) (λ a b. refl)

    pub member_declarator_is_read : {given : Type 0} (atomic : Bool) → IsRead tokens stage given (λ d. lang.member_declarator d level (inner d) (value d) atomic) (read.member_declarator room readers read_value atomic) no (mark MARK_COLON ∷ begins_declarator atomic) (λ a. after_member_declarator)
    unfolding lang.member_declarator read.member_declarator
    member_declarator_is_read atomic =
        read_either (bit_field_is_read (unnamed_of (no_pointers false) [])) (named_member_is_read atomic) (declarator_and_colon atomic)

    pub last_member_declarator_is_read : {given : Type 0} (declarators : Declarators) → IsRead tokens stage given (λ d. lang.last_member_declarator d level (inner d) (value d) declarators) (read.last_member_declarator room readers read_value declarators) no semicolon (by_turn after_member_declarator nothing)
    unfolding lang.last_member_declarator read.last_member_declarator
    last_member_declarator_is_read declarators =
        read_weaker (by_turn after_member_declarator nothing) (λ g. g) (λ a. refl) (read_token fits (sample tokens (mark MARK_SEMICOLON ∷ []) (Mark MARK_SEMICOLON) refl refl refl) (λ s. read_pure (Done (declarators_to declarators s))))

    pub next_member_declarator_is_read : {given : Type 0} (declarators : Declarators) → IsRead tokens stage given (λ d. lang.next_member_declarator d level (inner d) (value d) declarators) (read.next_member_declarator room readers read_value declarators) no (mark MARK_COMMA ∷ []) (by_turn after_member_declarator nothing)
    unfolding lang.next_member_declarator read.next_member_declarator
    next_member_declarator_is_read declarators =
        read_token fits (sample tokens (mark MARK_COMMA ∷ []) (Mark MARK_COMMA) refl refl refl)
        (λ c. read_map (λ n. Again (with_declarator (declarators_to declarators c) n)) (by_turn after_member_declarator nothing) (member_declarator_is_read false) (λ a. refl))

    pub member_declarator_turn_is_read : {given : Type 0} (declarators : Declarators) → IsRead tokens stage given (λ d. lang.member_declarator_turn d level (inner d) (value d) declarators) (read.member_declarator_turn room readers read_value declarators) no (mark MARK_COMMA ∷ semicolon) (by_turn after_member_declarator nothing)
    unfolding lang.member_declarator_turn read.member_declarator_turn
    member_declarator_turn_is_read declarators =
        read_either (next_member_declarator_is_read declarators) (last_member_declarator_is_read declarators) refl

    member_declarator_turn_ends : (declarators : Declarators) (scopes : OpenScopes) →
        Ending tokens.IsToken (λ d. lang.member_declarator_turn d level (inner d) (value d) declarators) scopes
    unfolding lang.member_declarator_turn lang.last_member_declarator
    member_declarator_turn_ends declarators scopes =
        let t = (sample tokens (mark MARK_SEMICOLON ∷ []) (Mark MARK_SEMICOLON) refl refl refl) scopes in record {
          word = (t.token, level) ∷ [];
          value = declarators_to declarators t.token.number;
          scope' = scopes;
          turns = 0;
          lexemes = (t.lexeme, tt);
          is = λ n h. inr (record {
            front = (t.token, level) ∷ [];
            back = [];
            value = (t.token.number, scopes);
            split = refl;
            begin = record { token = t.token; is = refl; fits = t.fits; value = refl };
            rest = record { none = refl; same = refl };
          });
        }

    pub more_member_declarators_is_read : {given : Type 0} (declarators : Declarators) → IsRead tokens stage given (λ d. lang.more_member_declarators d level (inner d) (value d) declarators) (read.more_member_declarators room readers read_value declarators) no (mark MARK_COMMA ∷ semicolon) nothing
    unfolding lang.more_member_declarators read.more_member_declarators
    more_member_declarators_is_read declarators =
        read_repeat after_member_declarator nothing member_declarator_turn_is_read refl member_declarator_turn_ends declarators

    pub some_member_declarators_is_read : {given : Type 0} (atomic : Bool) → IsRead tokens stage given (λ d. lang.some_member_declarators d level (inner d) (value d) atomic) (read.some_member_declarators room readers read_value atomic) no (mark MARK_COLON ∷ begins_declarator atomic) nothing
    unfolding lang.some_member_declarators read.some_member_declarators
    some_member_declarators_is_read atomic =
        read_then nothing (member_declarator_is_read atomic) (λ n. more_member_declarators_is_read (with_declarator no_declarators n)) (λ a. refl) (λ b. refl) (λ a b. refl)

    pub no_member_declarators_is_read : {given : Type 0} → IsRead tokens stage given (λ d. lang.no_member_declarators d level (inner d) (value d)) (read.no_member_declarators room readers read_value) no semicolon nothing
    unfolding lang.no_member_declarators read.no_member_declarators
    no_member_declarators_is_read =
        read_token fits (sample tokens (mark MARK_SEMICOLON ∷ []) (Mark MARK_SEMICOLON) refl refl refl) (λ s. read_pure (declarators_to no_declarators s))

    pub member_declarators_is_read : {given : Type 0} (atomic : Bool) → IsRead tokens stage given (λ d. lang.member_declarators d level (inner d) (value d) atomic) (read.member_declarators room readers read_value atomic) no (mark MARK_SEMICOLON ∷ mark MARK_COLON ∷ begins_declarator atomic) nothing
    unfolding lang.member_declarators read.member_declarators
    member_declarators_is_read atomic =
        read_either no_member_declarators_is_read (some_member_declarators_is_read atomic) (member_and_semicolon atomic)

    pub members_is_read : {given : Type 0} → IsRead tokens stage given (λ d. lang.members d level (inner d) (value d)) (read.members room readers read_value) no (begins_specifiers Member) nothing
    unfolding lang.members read.members
    members_is_read =
        read_then nothing (specifiers_is_read tokens fits inner readers ri Member)
        (λ s. read_map (names_of s) nothing (member_declarators_is_read s.atomic) (λ a. refl)) (λ s. members_apart_at s.atomic s.words s.typedef) (λ b. refl) (λ a b. refl)

    pub member_is_read : {given : Type 0} → IsRead tokens stage given (λ d. lang.member d level (inner d) (value d)) (read.member room readers read_value) no begins_member nothing
    unfolding lang.member read.member
    member_is_read =
        read_either assertion_is_read members_is_read refl

  -- ---- Declarations (6.7)

  module _ (value : ℕ → Part Assign) (read_value : PartReader Assign) (rv : (given_v : Type 0) → IsRead tokens stage given_v value read_value no (begins_assign Whole) (λ a. after_assign)) where
    pub declared_is_read : {given : Type 0} (typedef : Bool) (atomic : Bool) → IsRead tokens stage given (λ d. lang.declared d level (inner d) (value d) typedef atomic) (read.declared room readers read_value typedef atomic) no (begins_declarator atomic) (λ a. begins_suffix)
    unfolding lang.declared read.declared
    declared_is_read typedef atomic =
        read_changing (λ (n : Named). with_name n.name typedef) (λ (n : Named). n) (λ a. begins_suffix) (declarator_is_read tokens fits inner readers ri atomic) (λ a. fixed begins_suffix refl) (λ a. refl)

    pub initialised_is_read : {given : Type 0} (named : Named) → IsRead tokens stage given (λ d. lang.initialised d level (inner d) (value d) named) (read.initialised room readers read_value named) no (mark MARK_EQUAL ∷ []) (λ a. after_init_declarator)
    unfolding lang.initialised read.initialised
    initialised_is_read named =
        read_token fits (sample tokens (mark MARK_EQUAL ∷ []) (Mark MARK_EQUAL) refl refl refl) (λ e. read_map (λ i. defined named.declarator i e) (λ a. after_init_declarator) (initialiser_is_read tokens fits inner readers ri value read_value rv) (λ a. refl))

    pub init_declarator_is_read : {given : Type 0} (typedef : Bool) (atomic : Bool) → IsRead tokens stage given (λ d. lang.init_declarator d level (inner d) (value d) typedef atomic) (read.init_declarator room readers read_value typedef atomic) no (begins_declarator atomic) (λ a. after_init_declarator)
    unfolding lang.init_declarator read.init_declarator
    init_declarator_is_read typedef atomic =
        read_then (λ a. after_init_declarator) (declared_is_read typedef atomic)
        (λ n. read_optional (λ a. after_init_declarator) (undefined n.declarator) (initialised_is_read n) (λ a. refl) refl) (λ a. refl) (λ b. refl) (λ a b. refl)

    pub last_declarator_is_read : {given : Type 0} (declarators : Declarators) → IsRead tokens stage given (λ d. lang.last_declarator d level (inner d) (value d) declarators) (read.last_declarator room readers read_value declarators) no semicolon (by_turn after_init_declarator nothing)
    unfolding lang.last_declarator read.last_declarator
    last_declarator_is_read declarators =
        read_weaker (by_turn after_init_declarator nothing) (λ g. g) (λ a. refl) (read_token fits (sample tokens (mark MARK_SEMICOLON ∷ []) (Mark MARK_SEMICOLON) refl refl refl) (λ s. read_pure (Done (declarators_to declarators s))))

    pub next_declarator_is_read : {given : Type 0} (typedef : Bool) (declarators : Declarators) → IsRead tokens stage given (λ d. lang.next_declarator d level (inner d) (value d) typedef declarators) (read.next_declarator room readers read_value typedef declarators) no (mark MARK_COMMA ∷ []) (by_turn after_init_declarator nothing)
    unfolding lang.next_declarator read.next_declarator
    next_declarator_is_read typedef declarators =
        read_token fits (sample tokens (mark MARK_COMMA ∷ []) (Mark MARK_COMMA) refl refl refl)
        (λ c. read_map (λ n. Again (with_declarator (declarators_to declarators c) n)) (by_turn after_init_declarator nothing) (init_declarator_is_read typedef false) (λ a. refl))

    pub declarator_turn_is_read : {given : Type 0} (typedef : Bool) (declarators : Declarators) → IsRead tokens stage given (λ d. lang.declarator_turn d level (inner d) (value d) typedef declarators) (read.declarator_turn room readers read_value typedef declarators) no (mark MARK_COMMA ∷ semicolon) (by_turn after_init_declarator nothing)
    unfolding lang.declarator_turn read.declarator_turn
    declarator_turn_is_read typedef declarators =
        read_either (next_declarator_is_read typedef declarators) (last_declarator_is_read declarators) refl

    declarator_turn_ends : (typedef : Bool) (declarators : Declarators) (scopes : OpenScopes) →
        Ending tokens.IsToken (λ d. lang.declarator_turn d level (inner d) (value d) typedef declarators) scopes
    unfolding lang.declarator_turn lang.last_declarator
    declarator_turn_ends typedef declarators scopes =
        let t = (sample tokens (mark MARK_SEMICOLON ∷ []) (Mark MARK_SEMICOLON) refl refl refl) scopes in record {
          word = (t.token, level) ∷ [];
          value = declarators_to declarators t.token.number;
          scope' = scopes;
          turns = 0;
          lexemes = (t.lexeme, tt);
          is = λ n h. inr (record {
            front = (t.token, level) ∷ [];
            back = [];
            value = (t.token.number, scopes);
            split = refl;
            begin = record { token = t.token; is = refl; fits = t.fits; value = refl };
            rest = record { none = refl; same = refl };
          });
        }

    pub more_declarators_is_read : {given : Type 0} (typedef : Bool) (declarators : Declarators) → IsRead tokens stage given (λ d. lang.more_declarators d level (inner d) (value d) typedef declarators) (read.more_declarators room readers read_value typedef declarators) no (mark MARK_COMMA ∷ semicolon) nothing
    unfolding lang.more_declarators read.more_declarators
    more_declarators_is_read typedef declarators =
        read_repeat after_init_declarator nothing (declarator_turn_is_read typedef) refl (declarator_turn_ends typedef) declarators

    pub some_declarators_is_read : {given : Type 0} (typedef : Bool) (atomic : Bool) → IsRead tokens stage given (λ d. lang.some_declarators d level (inner d) (value d) typedef atomic) (read.some_declarators room readers read_value typedef atomic) no (begins_declarator atomic) nothing
    unfolding lang.some_declarators read.some_declarators
    some_declarators_is_read typedef atomic =
        read_then nothing (init_declarator_is_read typedef atomic) (λ n. more_declarators_is_read typedef (with_declarator no_declarators n)) (λ a. refl) (λ b. refl) (λ a b. refl)

    pub no_more_declarators_is_read : {given : Type 0} → IsRead tokens stage given (λ d. lang.no_more_declarators d level (inner d) (value d)) (read.no_more_declarators room readers read_value) no semicolon nothing
    unfolding lang.no_more_declarators read.no_more_declarators
    no_more_declarators_is_read =
        read_token fits (sample tokens (mark MARK_SEMICOLON ∷ []) (Mark MARK_SEMICOLON) refl refl refl) (λ s. read_pure (declarators_to no_declarators s))

    pub declarators_is_read : {given : Type 0} (typedef : Bool) (atomic : Bool) → IsRead tokens stage given (λ d. lang.declarators d level (inner d) (value d) typedef atomic) (read.declarators room readers read_value typedef atomic) no (mark MARK_SEMICOLON ∷ begins_declarator atomic) nothing
    unfolding lang.declarators read.declarators
    declarators_is_read typedef atomic =
        read_either no_more_declarators_is_read (some_declarators_is_read typedef atomic) (declarator_and_semicolon atomic)

    pub names_is_read : {given : Type 0} → IsRead tokens stage given (λ d. lang.names d level (inner d) (value d)) (read.names room readers read_value) no (begins_specifiers Ordinary) nothing
    unfolding lang.names read.names
    names_is_read =
        read_then nothing (specifiers_is_read tokens fits inner readers ri Ordinary)
        (λ s. read_map (names_of s) nothing (declarators_is_read s.typedef s.atomic) (λ a. refl)) (λ s. names_apart_at s.atomic s.words s.typedef) (λ b. refl) (λ a b. refl)

    pub declaration_is_read : {given : Type 0} → IsRead tokens stage given (λ d. lang.declaration d level (inner d) (value d)) (read.declaration room readers read_value) no (key KEY_STATIC_ASSERT ∷ begins_specifiers Ordinary) nothing
    unfolding lang.declaration read.declaration
    declaration_is_read =
        read_either assertion_is_read names_is_read refl
