-- Initialisers are read exactly (C11 6.7.9), a term a rule.

use Rattle.std.proofs.Common.{inr, ℕ, suc, ◌-◌, ◌<◌, List, [], ◌∷◌, ◌++◌, refl, arith}
use Rattle.c_lexer.specs.declared.token.Kind.TheVariants.{Word, Mark}
use Rattle.c_lexer.specs.declared.mark.TheConstants.{MARK_LEFT_BRACKET, MARK_RIGHT_BRACKET, MARK_LEFT_BRACE}
use Rattle.c_lexer.specs.declared.mark.TheConstants.{MARK_RIGHT_BRACE, MARK_COMMA, MARK_EQUAL, MARK_DOT}
use Rattle.c_tree.specs.declared.tree.Assign.{Assign}
use Rattle.c_tree.specs.declared.tree.Designator.{Designator}
use Rattle.c_tree.specs.declared.tree.Designator.TheVariants as designator
use Rattle.c_tree.specs.declared.tree.Init.TheVariants as init
use Rattle.c_tree.specs.Forms.{sole}
use Rattle.c_scopes.specs.Scopes.{OpenScopes}
use Rattle.reading.specs.declared.turn.Turn.TheVariants.{Again, Done}
use Rattle.reading.proofs.ReadBy.{Stage, no, keeping, read_pure, read_weaker, read_given}
use Rattle.reading.proofs.ReadOne.{HasRoom, room_inside}
use Rattle.reading.proofs.ReadThen.{read_then, read_token, read_map}
use Rattle.reading.proofs.ReadEither.{read_either}
use Rattle.reading.proofs.ReadSteps.{read_many}
use Rattle.reading.proofs.ReadTurns.{Ending, by_turn, read_repeat}
use Rattle.c_reading.specs.Terminals.{mark}
use Rattle.c_syntax.specs.Scoping.{Part, PartReader}
use Rattle.c_syntax.specs.Sets.{any_name}
use Rattle.c_syntax.specs.declared.forms.AssignForm.TheVariants.{Whole, Constant}
use Rattle.c_declarations.specs.declared.forms.Items.{Items}
use Rattle.c_specifiers.specs.DeclarationSets.{begins_designator}
use Rattle.c_declarations.specs.DeclarationForms.{first_item, with_item, items_to, item_of}
use Rattle.c_specifiers.specs.Inside.{Inside, InsideReaders}
use Rattle.c_declarations.specs.InitialiserRules as lang
use Rattle.c_declarations.specs.InitialiserReaders as read
use Rattle.c_syntax.specs.Sets.{begins_assign}
use Rattle.c_syntax.proofs.ExpressionsAreRead.{after_assign}
use Rattle.c_specifiers.proofs.DeclarationReadings.{Tokens, IsRead, InsideAreRead, sample, nothing, brace, begins_init, begins_item}

module _ (tokens : Tokens) {stage : Stage} {level room : ℕ} (fits : HasRoom stage level room) (inner : ℕ → Inside) (readers : InsideReaders)
    (ri : InsideAreRead tokens stage (0 < room) inner readers) where
  deeper : HasRoom stage (suc level) (room - 1)
  deeper = room_inside fits

  there : 0 < room - 1 → 0 < room
  there h = omega arith

  -- ---- Items in braces

  pub last_item_is_read : {given : Type 0} (items : Items) → IsRead tokens stage given (λ d. lang.last_item d level (inner d) items) (read.last_item room readers items) no (mark MARK_RIGHT_BRACE ∷ []) (by_turn after_assign nothing)
  unfolding lang.last_item read.last_item
  last_item_is_read items =
      read_weaker (by_turn after_assign nothing) (λ g. g) (λ a. refl) (read_token deeper (sample tokens (mark MARK_RIGHT_BRACE ∷ []) (Mark MARK_RIGHT_BRACE) refl refl refl) (λ r. read_pure (Done (items_to items r))))

  pub next_item_is_read : (items : Items) → IsRead tokens stage (0 < room - 1) (λ d. lang.next_item d level (inner d) items) (read.next_item room readers items) no begins_item (by_turn after_assign nothing)
  unfolding lang.next_item read.next_item
  next_item_is_read items =
      read_map (λ i. Again (with_item items i)) (by_turn after_assign nothing) (read_given there ri.item) (λ a. refl)

  pub comma_item_is_read : {given : Type 0} (items : Items) → IsRead tokens stage given (λ d. lang.comma_item d level (inner d) items) (read.comma_item room readers items) no (mark MARK_COMMA ∷ []) (by_turn after_assign nothing)
  unfolding lang.comma_item read.comma_item
  comma_item_is_read items =
      read_token deeper (sample tokens (mark MARK_COMMA ∷ []) (Mark MARK_COMMA) refl refl refl) (λ c. read_either (last_item_is_read (items_to items c)) (next_item_is_read (items_to items c)) refl)

  pub item_turn_is_read : {given : Type 0} (items : Items) → IsRead tokens stage given (λ d. lang.item_turn d level (inner d) items) (read.item_turn room readers items) no (mark MARK_COMMA ∷ mark MARK_RIGHT_BRACE ∷ []) (by_turn after_assign nothing)
  unfolding lang.item_turn read.item_turn
  item_turn_is_read items =
      read_either (comma_item_is_read items) (last_item_is_read items) refl

  item_turn_ends : (items : Items) (scopes : OpenScopes) → Ending tokens.IsToken (λ d. lang.item_turn d level (inner d) items) scopes
  unfolding lang.item_turn lang.last_item
  item_turn_ends items scopes =
      let t = (sample tokens (mark MARK_RIGHT_BRACE ∷ []) (Mark MARK_RIGHT_BRACE) refl refl refl) scopes in record {
        word = (t.token, suc level) ∷ [];
        value = items_to items t.token.number;
        scope' = scopes;
        turns = 0;
        lexemes = (t.lexeme, tt);
        is = λ n h. inr (record {
          front = (t.token, suc level) ∷ [];
          back = [];
          value = (t.token.number, scopes);
          split = refl;
          begin = record { token = t.token; is = refl; fits = t.fits; value = refl };
          rest = record { none = refl; same = refl };
        });
      }

  pub all_items_is_read : {given : Type 0} (items : Items) → IsRead tokens stage given (λ d. lang.all_items d level (inner d) items) (read.all_items room readers items) no (mark MARK_COMMA ∷ mark MARK_RIGHT_BRACE ∷ []) nothing
  unfolding lang.all_items read.all_items
  all_items_is_read items =
      read_repeat after_assign nothing item_turn_is_read refl item_turn_ends items

  pub braced_is_read : {given : Type 0} (marks : List ℕ) → IsRead tokens stage given (λ d. lang.braced d level (inner d) marks) (read.braced room readers marks) no brace nothing
  unfolding lang.braced read.braced
  braced_is_read marks =
      read_token deeper (sample tokens (mark MARK_LEFT_BRACE ∷ []) (Mark MARK_LEFT_BRACE) refl refl refl) (λ l. read_then nothing (read_given there ri.item) (λ i. all_items_is_read (first_item i (marks ++ l ∷ []))) (λ a. refl) (λ b. refl) (λ a b. refl))

  pub init_list_is_read : {given : Type 0} → IsRead tokens stage given (λ d. lang.init_list d level (inner d)) (read.init_list room readers) no brace nothing
  unfolding lang.init_list read.init_list
  init_list_is_read =
      read_map (λ (i : Items). init.Items i.list i.marks) nothing (braced_is_read []) (λ a. refl)

  -- ---- Designators

  pub index_designator_is_read : {given : Type 0} → IsRead tokens stage given (λ d. lang.index_designator d level (inner d)) (read.index_designator room readers) no (mark MARK_LEFT_BRACKET ∷ []) nothing
  unfolding lang.index_designator read.index_designator
  index_designator_is_read =
      read_token deeper (sample tokens (mark MARK_LEFT_BRACKET ∷ []) (Mark MARK_LEFT_BRACKET) refl refl refl)
      (λ l. read_then nothing (read_given there (ri.assign Constant))
      (λ v. read_token deeper (sample tokens (mark MARK_RIGHT_BRACKET ∷ []) (Mark MARK_RIGHT_BRACKET) refl refl refl) (λ r. read_pure (designator.Index (sole v) (l ∷ r ∷ [])))) (λ a. refl) (λ b. refl) (λ a b. refl))

  pub field_designator_is_read : {given : Type 0} → IsRead tokens stage given (λ d. lang.field_designator d level (inner d)) (read.field_designator room readers) no (mark MARK_DOT ∷ []) nothing
  unfolding lang.field_designator read.field_designator
  field_designator_is_read =
      read_token fits (sample tokens (mark MARK_DOT ∷ []) (Mark MARK_DOT) refl refl refl) (λ d. read_token fits (sample tokens any_name Word refl refl refl) (λ n. read_pure (designator.Field n (d ∷ []))))

  pub one_designator_is_read : {given : Type 0} → IsRead tokens stage given (λ d. lang.one_designator d level (inner d)) (read.one_designator room readers) no begins_designator nothing
  unfolding lang.one_designator read.one_designator
  one_designator_is_read =
      read_either index_designator_is_read field_designator_is_read refl

  pub more_designators_is_read : {given : Type 0} (designators : List Designator) → IsRead tokens stage given (λ d. lang.more_designators d level (inner d) designators) (read.more_designators room readers designators) no begins_designator nothing
  unfolding lang.more_designators read.more_designators
  more_designators_is_read designators =
      read_map (λ d. designators ++ d ∷ []) nothing one_designator_is_read (λ a. refl)

  pub all_designators_is_read : {given : Type 0} (designators : List Designator) → IsRead tokens stage given (λ d. lang.all_designators d level (inner d) designators) (read.all_designators room readers designators) keeping begins_designator (λ a. begins_designator)
  unfolding lang.all_designators read.all_designators
  all_designators_is_read designators =
      read_many [] begins_designator more_designators_is_read refl refl refl designators

  pub designators_is_read : {given : Type 0} → IsRead tokens stage given (λ d. lang.designators d level (inner d)) (read.designators room readers) no begins_designator (λ a. begins_designator)
  unfolding lang.designators read.designators
  designators_is_read =
      read_then (λ a. begins_designator) one_designator_is_read (λ d. all_designators_is_read (d ∷ [])) (λ a. refl) (λ b. refl) (λ a b. refl)

  -- ---- Initialisers

  module _ (value : ℕ → Part Assign) (read_value : PartReader Assign) (rv : (given_v : Type 0) → IsRead tokens stage given_v value read_value no (begins_assign Whole) (λ a. after_assign)) where
    pub init_value_is_read : {given : Type 0} → IsRead tokens stage given (λ d. lang.init_value d level (inner d) (value d)) (read.init_value room readers read_value) no (begins_assign Whole) (λ a. after_assign)
    unfolding lang.init_value read.init_value
    init_value_is_read =
        read_map (λ v. init.Value (sole v)) (λ a. after_assign) (rv _) (λ a. refl)

    pub initialiser_is_read : {given : Type 0} → IsRead tokens stage given (λ d. lang.initialiser d level (inner d) (value d)) (read.initialiser room readers read_value) no begins_init (λ a. after_assign)
    unfolding lang.initialiser read.initialiser
    initialiser_is_read =
        read_either (read_weaker (λ a. after_assign) (λ g. g) (λ a. refl) init_list_is_read) init_value_is_read refl

    pub designated_item_is_read : {given : Type 0} → IsRead tokens stage given (λ d. lang.designated_item d level (inner d) (value d)) (read.designated_item room readers read_value) no begins_designator (λ a. after_assign)
    unfolding lang.designated_item read.designated_item
    designated_item_is_read =
        read_then (λ a. after_assign) designators_is_read
        (λ p. read_token fits (sample tokens (mark MARK_EQUAL ∷ []) (Mark MARK_EQUAL) refl refl refl) (λ e. read_map (λ i. item_of p i (e ∷ [])) (λ a. after_assign) initialiser_is_read (λ a. refl))) (λ a. refl) (λ b. refl) (λ a b. refl)

    pub plain_item_is_read : {given : Type 0} → IsRead tokens stage given (λ d. lang.plain_item d level (inner d) (value d)) (read.plain_item room readers read_value) no begins_init (λ a. after_assign)
    unfolding lang.plain_item read.plain_item
    plain_item_is_read =
        read_map (λ i. item_of [] i []) (λ a. after_assign) initialiser_is_read (λ a. refl)

    pub item_is_read : {given : Type 0} → IsRead tokens stage given (λ d. lang.item d level (inner d) (value d)) (read.item room readers read_value) no begins_item (λ a. after_assign)
    unfolding lang.item read.item
    item_is_read =
        read_either designated_item_is_read plain_item_is_read refl
