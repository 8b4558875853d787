-- Statements and blocks are read exactly (C11 6.8), a term a rule.

use Rattle.std.proofs.Common.{◌≡◌, inl, inr, ℕ, zero, suc, ◌-◌, ◌<◌, Bool, true, false, not, List, [], ◌∷◌, ◌++◌, Some, None, refl, sym, ap, ◌∙◌, subst, append-nil, arith}
use Rattle.c_lexer.specs.declared.token.Kind.TheVariants.{Word, Key, Mark}
use Rattle.c_lexer.specs.declared.keyword.TheConstants.{KEY_BREAK, KEY_CASE, KEY_CONTINUE, KEY_DEFAULT, KEY_DO, KEY_ELSE, KEY_FOR}
use Rattle.c_lexer.specs.declared.keyword.TheConstants.{KEY_GOTO, KEY_IF, KEY_RETURN, KEY_SWITCH, KEY_WHILE}
use Rattle.c_lexer.specs.declared.mark.TheConstants.{MARK_LEFT_PAREN, MARK_RIGHT_PAREN, MARK_LEFT_BRACE, MARK_RIGHT_BRACE}
use Rattle.c_lexer.specs.declared.mark.TheConstants.{MARK_COLON, MARK_SEMICOLON}
use Rattle.c_tree.specs.declared.tree.BlockItem.TheVariants as item_
use Rattle.c_tree.specs.declared.tree.StmtKind.TheVariants as kind
use Rattle.c_tree.specs.declared.tree.Block.{Block}
use Rattle.c_tree.specs.declared.tree.BlockItem.{BlockItem}
use Rattle.c_tree.specs.declared.tree.Expr.{Expr}
use Rattle.c_tree.specs.declared.tree.Mark as label
use Rattle.c_tree.specs.declared.tree.ForInit.TheVariants as init_
use Rattle.c_scopes.specs.Scopes.{OpenScopes, entered, left}
use Rattle.reading.specs.declared.turn.Turn.{Turn}
use Rattle.reading.specs.declared.turn.Turn.TheVariants.{Again, Done}
use Rattle.reading.specs.Terminals.{has, are_disjoint, is_within}
use Rattle.reading.specs.Languages.{Leveled, tokens_of}
use Rattle.reading.specs.Rules.{repeat}
use Rattle.reading.specs.Readers.{begins}
use Rattle.reading.proofs.Sets.{never, within_itself, disjoint}
use Rattle.reading.proofs.Cutting.{tokens_append}
use Rattle.reading.proofs.Predictive.{head_fits}
use Rattle.reading.proofs.ReadBy.{Stage, Covers, no, keeping, read_pure, read_weaker, read_given}
use Rattle.reading.proofs.ReadOne.{Sample, HasRoom, room_inside}
use Rattle.reading.proofs.ReadThen.{goes_on, read_then, read_then_at, read_token, read_map}
use Rattle.reading.proofs.ReadEither.{read_either, read_optional}
use Rattle.reading.proofs.ReadTurns.{Ending, by_turn, read_repeat}
use Rattle.reading.proofs.ReadChanging.{IsFixed, read_changing, read_behind_change}
use Rattle.c_reading.specs.Kept.{KeptToken}
use Rattle.c_reading.specs.Terminals.{mark, key}
use Rattle.c_syntax.specs.Scoping.{Part, PartReader, terminal_of}
use Rattle.c_syntax.specs.Sets.{a_name, any_name, a_typedef_name}
use Rattle.c_stmt.specs.declared.forms.Kinded.{Kinded}
use Rattle.c_stmt.specs.declared.forms.Ended.{Ended}
use Rattle.c_stmt.specs.declared.forms.BlockItems.{BlockItems}
use Rattle.c_stmt.specs.declared.forms.Arm.{Arm}
use Rattle.c_stmt.specs.declared.forms.Arms.{Arms}
use Rattle.c_stmt.specs.StatementSets.{a_colon, a_left_brace, an_if, begins_expr, begins_declaration, a_statement_mark, begins_other, begins_plain, begins_statement, begins_item}
use Rattle.c_stmt.specs.Below.{Below, BelowReaders, Inside, InsideReaders}
use Rattle.c_stmt.specs.StatementForms.{closed, ended_of, with_label, with_case, with_default, no_items, with_item, block_of, arm_of, first_arms, with_arm, arms_to, without_else}
use Rattle.c_stmt.specs.StatementForms.{with_else, switch_of, while_of, do_of, maybe_expr, for_head, for_of}
use Rattle.c_stmt.specs.StatementRules as lang
use Rattle.c_stmt.specs.StatementReaders as read
use Rattle.c_stmt.proofs.StatementReadings.{Tokens, IsRead, BelowAreRead, InsideAreRead, IsColon, sample, fixed, same_entered, nothing, after_expr, an_else, else_if, after_ended}
use Rattle.c_stmt.proofs.BySecond.{read_by_second}
use Rattle.c_stmt.proofs.Otherwise.{read_otherwise}

-- ---- What goes on behind a part

abbrev pub after_kinded : Kinded → List ℕ
after_kinded kinded = else_if kinded.dangles

abbrev after_arm : Arm → List ℕ
after_arm arm = else_if arm.body.dangles

abbrev after_arm_turn : Turn Arms Kinded → List ℕ
after_arm_turn = by_turn [] after_kinded

abbrev after_turn : Turn (List label.Mark) Ended → List ℕ
after_turn = by_turn [] after_ended

abbrev after_item_turn : Turn BlockItems Block → List ℕ
after_item_turn = by_turn an_else nothing

fixed_else : (b : Bool) → IsFixed terminal_of (else_if b)
fixed_else true = fixed an_else refl
fixed_else false = fixed [] refl

-- What begins a body that is no block, and one behind `else` that is no `if`.
abbrev begins_unbraced : List ℕ
begins_unbraced =
    any_name ++ key KEY_CASE ∷ key KEY_DEFAULT ∷ mark MARK_SEMICOLON ∷ key KEY_IF ∷ key KEY_WHILE ∷ key KEY_DO ∷ key KEY_FOR ∷ key KEY_SWITCH ∷ key KEY_BREAK ∷
    key KEY_CONTINUE ∷ key KEY_GOTO ∷ key KEY_RETURN ∷ begins_expr

abbrev pub begins_body : List ℕ
begins_body = a_left_brace ++ begins_unbraced

abbrev begins_last_body : List ℕ
begins_last_body =
    a_left_brace ++ any_name ++ key KEY_CASE ∷ key KEY_DEFAULT ∷ mark MARK_SEMICOLON ∷ key KEY_WHILE ∷ key KEY_DO ∷ key KEY_FOR ∷ key KEY_SWITCH ∷ key KEY_BREAK ∷
    key KEY_CONTINUE ∷ key KEY_GOTO ∷ key KEY_RETURN ∷ begins_expr

-- ---- A part in a scope of its own

module _ (tokens : Tokens) {stage : Stage} where
  pub in_scope_is_read : {given A : Type 0} {X : ℕ → Part A} {p : PartReader A} {first : List ℕ} {last : A → List ℕ} → IsRead tokens stage given X p no first last →
      ((a : A) → IsFixed terminal_of (last a)) → IsRead tokens stage given (λ d. lang.in_scope (X d)) (read.in_scope p) no first last
  in_scope_is_read {last = last} r same =
      read_behind_change entered same_entered (read_changing (λ a. left) (λ a. a) last r same (λ a. within_itself (last a)))

-- ---- A null statement ends the labels before it

module _ (tokens : Tokens) (below : Below) (level : ℕ) (inner : ℕ → Inside) where
  pub turn_ends : (labels : List label.Mark) (scopes : OpenScopes) → Ending tokens.IsToken (λ d. lang.turn below d level (inner d) labels) scopes
  unfolding lang.turn lang.other_turn lang.keyed_turn lang.kinded_turn lang.kinded lang.empty
  turn_ends labels scopes =
      let t = sample tokens (mark MARK_SEMICOLON ∷ []) (Mark MARK_SEMICOLON) refl refl refl scopes in record {
        word = (t.token, level) ∷ [];
        value = ended_of labels (closed (kind.Empty (t.token.number ∷ [])));
        scope' = scopes;
        turns = 0;
        lexemes = (t.lexeme, tt);
        is = λ n h. inr (inl (inr (inr (record {
          front = (t.token, level) ∷ [];
          back = [];
          value = (closed (kind.Empty (t.token.number ∷ [])), scopes);
          split = refl;
          begin = inl (record {
            front = (t.token, level) ∷ [];
            back = [];
            value = (t.token.number, scopes);
            split = refl;
            begin = record { token = t.token; is = refl; fits = t.fits; value = refl };
            rest = record { none = refl; same = refl };
          });
          rest = record { none = refl; same = refl };
        }))));
      }

-- ---- Second tokens

no_colon : (n : ℕ) (b : Bool) → has a_colon n ≡ b → has (mark MARK_SEMICOLON ∷ []) n ≡ true → not b ≡ true
no_colon n true e f = absurd (disjoint (mark MARK_SEMICOLON ∷ []) a_colon refl n f e)
no_colon n false e f = refl

not_false : (b : Bool) → b ≡ false → not b ≡ true
not_false true e = never (sym e)
not_false false e = refl

begins_more : (test : KeptToken → Bool) (us more : List KeptToken) → begins test us ≡ true → begins test (us ++ more) ≡ true
begins_more test [] more e = never e
begins_more test (u ∷ us) more e = e

-- The second token of a word is that of its front.
behind_front : (test : KeptToken → Bool) (front back w : List (Leveled KeptToken)) (t : KeptToken) (vs : List KeptToken) → w ≡ front ++ back → tokens_of w ≡ t ∷ vs → (front ≡ [] → ⊥) →
    ((us : List KeptToken) → tokens_of front ≡ t ∷ us → begins test us ≡ true) → begins test vs ≡ true
behind_front test [] back w t vs e f none go = absurd (none refl)
behind_front test (z ∷ front) back w t vs e f none go =
    let g : z.0 ∷ (tokens_of front ++ tokens_of back) ≡ t ∷ vs = sym (ap tokens_of e ∙ ap (λ r. z.0 ∷ r) (tokens_append front back)) ∙ f in
    let k : tokens_of front ++ tokens_of back ≡ vs = cc in
    let same : z.0 ≡ t = cc in
    subst (λ r. begins test r ≡ true) k (begins_more test (tokens_of front) (tokens_of back) (go (tokens_of front) (ap (λ r. r ∷ tokens_of front) same)))

module _ (tokens : Tokens) (below : Below) (below_readers : BelowReaders) (rb : BelowAreRead tokens below below_readers) {stage : Stage} {level room : ℕ} (fits : HasRoom stage level room)
    (inner : ℕ → Inside) (readers : InsideReaders) (ri : InsideAreRead tokens stage (0 < room) inner readers) where
  deeper : HasRoom stage (suc level) (room - 1)
  deeper = room_inside fits

  there : 0 < room - 1 → 0 < room
  there h = omega arith

  -- ---- Blocks (6.8.2)

  last_item_is_read : {given : Type 0} (items : BlockItems) →
      IsRead tokens stage given (λ d. lang.last_item below d level (inner d) items) (read.last_item below_readers room readers items) no (mark MARK_RIGHT_BRACE ∷ []) after_item_turn
  unfolding lang.last_item read.last_item
  last_item_is_read items =
      read_weaker after_item_turn (λ g. g) (λ a. refl)
      (read_token deeper (sample tokens (mark MARK_RIGHT_BRACE ∷ []) (Mark MARK_RIGHT_BRACE) refl refl refl) (λ r. read_pure (Done (block_of items r))))

  next_item_is_read : (items : BlockItems) →
      IsRead tokens stage (0 < room - 1) (λ d. lang.next_item below d level (inner d) items) (read.next_item below_readers room readers items) no begins_item after_item_turn
  unfolding lang.next_item read.next_item
  next_item_is_read items = read_map (λ i. Again (with_item items i)) after_item_turn (read_given there ri.item) (λ i. refl)

  item_turn_is_read : (items : BlockItems) →
      IsRead tokens stage (0 < room - 1) (λ d. lang.item_turn below d level (inner d) items) (read.item_turn below_readers room readers items) no (mark MARK_RIGHT_BRACE ∷ begins_item) after_item_turn
  unfolding lang.item_turn read.item_turn
  item_turn_is_read items = read_either (last_item_is_read items) (next_item_is_read items) refl

  item_turn_ends : (items : BlockItems) (scopes : OpenScopes) → Ending tokens.IsToken (λ d. lang.item_turn below d level (inner d) items) scopes
  unfolding lang.item_turn lang.last_item
  item_turn_ends items scopes =
      let t = sample tokens (mark MARK_RIGHT_BRACE ∷ []) (Mark MARK_RIGHT_BRACE) refl refl refl scopes in record {
        word = (t.token, suc level) ∷ [];
        value = block_of items t.token.number;
        scope' = scopes;
        turns = 0;
        lexemes = (t.lexeme, tt);
        is = λ n h. inl (record {
          front = (t.token, suc level) ∷ [];
          back = [];
          value = (t.token.number, scopes);
          split = refl;
          begin = record { token = t.token; is = refl; fits = t.fits; value = refl };
          rest = record { none = refl; same = refl };
        });
      }

  all_items_is_read : (items : BlockItems) →
      IsRead tokens stage (0 < room - 1) (λ d. lang.all_items below d level (inner d) items) (read.all_items below_readers room readers items) no (mark MARK_RIGHT_BRACE ∷ begins_item) nothing
  unfolding lang.all_items read.all_items
  all_items_is_read items = read_repeat an_else nothing item_turn_is_read refl item_turn_ends items

  pub block_is_read : {given : Type 0} → IsRead tokens stage given (λ d. lang.block below d level (inner d)) (read.block below_readers room readers) no a_left_brace nothing
  unfolding lang.block read.block
  block_is_read =
      read_token deeper (sample tokens a_left_brace (Mark MARK_LEFT_BRACE) refl refl refl) (λ l. in_scope_is_read tokens (all_items_is_read (no_items l)) (λ a. fixed [] refl))

  braced_is_read : {given : Type 0} → IsRead tokens stage given (λ d. lang.braced below d level (inner d)) (read.braced below_readers room readers) no a_left_brace after_kinded
  unfolding lang.braced read.braced
  braced_is_read = read_map (λ b. closed (kind.Braced b)) after_kinded block_is_read (λ b. refl)

  -- ---- Bodies

  unbraced_is_read : IsRead tokens stage (0 < room) (λ d. lang.unbraced below d level (inner d)) (read.unbraced below_readers room readers) no begins_statement after_ended
  unfolding lang.unbraced read.unbraced
  unbraced_is_read = in_scope_is_read tokens ri.statement (λ e. fixed_else e.dangles)

  braced_body_is_read : {given : Type 0} → IsRead tokens stage given (λ d. lang.braced_body below d level (inner d)) (read.braced_body below_readers room readers) no a_left_brace after_ended
  unfolding lang.braced_body read.braced_body
  braced_body_is_read = read_map (ended_of []) after_ended braced_is_read (λ k. within_itself (after_kinded k))

  body_is_read : IsRead tokens stage (0 < room) (λ d. lang.body below d level (inner d)) (read.body below_readers room readers) no begins_body after_ended
  unfolding lang.body read.body
  body_is_read = read_otherwise begins_unbraced braced_body_is_read unbraced_is_read refl refl refl

  -- ---- Expressions and nothing (6.8.3)

  empty_is_read : {given : Type 0} → IsRead tokens stage given (λ d. lang.empty below d level (inner d)) (read.empty below_readers room readers) no (mark MARK_SEMICOLON ∷ []) after_kinded
  unfolding lang.empty read.empty
  empty_is_read =
      read_weaker after_kinded (λ g. g) (λ a. refl)
      (read_token fits (sample tokens (mark MARK_SEMICOLON ∷ []) (Mark MARK_SEMICOLON) refl refl refl) (λ s. read_pure (closed (kind.Empty (s ∷ [])))))

  value_is_read : {given : Type 0} → IsRead tokens stage given (λ d. lang.value below d level (inner d)) (read.value below_readers room readers) no begins_expr after_kinded
  unfolding lang.value read.value
  value_is_read {given} =
      read_then after_kinded (rb.expr stage given fits)
      (λ e. read_token fits (sample tokens (mark MARK_SEMICOLON ∷ []) (Mark MARK_SEMICOLON) refl refl refl) (λ s. read_pure (closed (kind.Value e (s ∷ [])))))
      (λ a. refl) (λ b. refl) (λ a b. refl)

  -- ---- Selection (6.8.4)

  arm_is_read : {given : Type 0} → IsRead tokens stage given (λ d. lang.arm below d level (inner d)) (read.arm below_readers room readers) no (mark MARK_LEFT_PAREN ∷ []) after_arm
  unfolding lang.arm read.arm
  arm_is_read =
      read_token deeper (sample tokens (mark MARK_LEFT_PAREN ∷ []) (Mark MARK_LEFT_PAREN) refl refl refl)
      (λ l. read_then after_arm (rb.expr stage _ deeper)
      (λ c. read_token deeper (sample tokens (mark MARK_RIGHT_PAREN ∷ []) (Mark MARK_RIGHT_PAREN) refl refl refl)
      (λ r. read_map (λ b. arm_of c b l r) after_arm (read_given there body_is_read) (λ b. within_itself (after_ended b))))
      (λ a. refl) (λ b. within_itself (after_arm b)) (λ a b. refl))

  next_arm_is_read : {given : Type 0} (arms : Arms) (n : ℕ) →
      IsRead tokens stage given (λ d. lang.next_arm below d level (inner d) arms n) (read.next_arm below_readers room readers arms n) no an_if after_arm_turn
  unfolding lang.next_arm read.next_arm
  next_arm_is_read arms n =
      read_weaker after_arm_turn (λ g. g) (λ a. refl)
      (read_token fits (sample tokens an_if (Key KEY_IF) refl refl refl) (λ k. read_pure (Again (arms_to arms (n ∷ k ∷ [])))))

  last_body_is_read : (arms : Arms) (n : ℕ) →
      IsRead tokens stage (0 < room) (λ d. lang.last_body below d level (inner d) arms n) (read.last_body below_readers room readers arms n) no begins_body after_arm_turn
  unfolding lang.last_body read.last_body
  last_body_is_read arms n = read_map (λ e. Done (with_else arms n e)) after_arm_turn body_is_read (λ e. within_itself (after_ended e))

  else_part_is_read : {given : Type 0} (arms : Arms) →
      IsRead tokens stage given (λ d. lang.else_part below d level (inner d) arms) (read.else_part below_readers room readers arms) no an_else after_arm_turn
  unfolding lang.else_part read.else_part
  else_part_is_read arms =
      read_token fits (sample tokens an_else (Key KEY_ELSE) refl refl refl)
      (λ n. read_otherwise begins_last_body (next_arm_is_read arms n) (last_body_is_read arms n) refl refl refl)

  abbrev first_behind : Bool → List ℕ
  first_behind true = []
  first_behind false = an_else

  behind_arm_is_read : {given : Type 0} (b : Bool) (arms : Arms) →
      IsRead tokens stage given (λ d. lang.behind_arm below d level (inner d) b arms) (read.behind_arm below_readers room readers b arms) keeping (first_behind b) after_arm_turn
  behind_arm_is_read true arms = read_weaker after_arm_turn (λ g. g) (λ a. refl) (read_pure (Done (without_else arms)))
  behind_arm_is_read false arms = read_optional after_arm_turn (Done (without_else arms)) (else_part_is_read arms) (λ a. within_itself (after_arm_turn a)) refl

  arm_apart : (b : Bool) → are_disjoint (else_if b) (first_behind b) ≡ true
  arm_apart true = refl
  arm_apart false = refl

  -- Where nothing stands behind an arm that ends in an `if`, the whole ends so.
  arm_goes_on : (d : ℕ) (scopes : OpenScopes) (b : Bool) (arms : Arms) (end : Turn Arms Kinded × OpenScopes) → lang.behind_arm below d level (inner d) b arms scopes [] end →
      goes_on keeping (else_if b) (after_arm_turn end.0) ≡ true
  arm_goes_on d scopes true arms end x = subst (λ z. is_within an_else (after_arm_turn z) ≡ true) (sym (ap (λ (z : _). z.0) x.same)) refl
  arm_goes_on d scopes false arms end x = refl

  arm_turn_is_read : {given : Type 0} (arms : Arms) →
      IsRead tokens stage given (λ d. lang.arm_turn below d level (inner d) arms) (read.arm_turn below_readers room readers arms) no (mark MARK_LEFT_PAREN ∷ []) after_arm_turn
  unfolding lang.arm_turn read.arm_turn
  arm_turn_is_read arms =
      read_then_at after_arm_turn arm_is_read (λ a. behind_arm_is_read a.body.dangles (with_arm arms a)) (λ a. arm_apart a.body.dangles) (λ t. within_itself (after_arm_turn t))
      (λ d scopes a end x. arm_goes_on d scopes a.body.dangles (with_arm arms a) end x)

  arm_stops : (n : ℕ) (b : Bool) (arms : Arms) (scopes : OpenScopes) → lang.behind_arm below n level (inner n) b arms scopes [] (Done (without_else arms), scopes)
  arm_stops n true arms scopes = record { none = refl; same = refl }
  arm_stops n false arms scopes = inr (record { none = refl; same = refl })

  arm_turn_ends : (arms : Arms) (scopes : OpenScopes) → Ending tokens.IsToken (λ d. lang.arm_turn below d level (inner d) arms) scopes
  unfolding lang.arm_turn
  arm_turn_ends arms scopes =
      let s = (arm_is_read {given = Prim.Unit {0}}).some scopes in record {
        word = s.word;
        value = without_else (with_arm arms s.value.0);
        scope' = s.value.1;
        turns = s.turns;
        lexemes = s.lexemes;
        is = λ n h. record {
          front = s.word;
          back = [];
          value = s.value;
          split = sym (append-nil s.word);
          begin = s.is n h;
          rest = arm_stops n s.value.0.body.dangles (with_arm arms s.value.0) s.value.1;
        };
      }

  all_arms_is_read : {given : Type 0} (arms : Arms) →
      IsRead tokens stage given (λ d. lang.all_arms below d level (inner d) arms) (read.all_arms below_readers room readers arms) no (mark MARK_LEFT_PAREN ∷ []) after_kinded
  unfolding lang.all_arms read.all_arms
  all_arms_is_read arms = read_repeat [] after_kinded arm_turn_is_read refl arm_turn_ends arms

  if_is_read : {given : Type 0} → IsRead tokens stage given (λ d. lang.if_ below d level (inner d)) (read.if_ below_readers room readers) no an_if after_kinded
  unfolding lang.if_ read.if_
  if_is_read =
      read_token fits (sample tokens an_if (Key KEY_IF) refl refl refl) (λ k. in_scope_is_read tokens (all_arms_is_read (first_arms k)) (λ a. fixed_else a.dangles))

  switch_inside_is_read : {given : Type 0} (k : ℕ) →
      IsRead tokens stage given (λ d. lang.switch_inside below d level (inner d) k) (read.switch_inside below_readers room readers k) no (mark MARK_LEFT_PAREN ∷ []) after_kinded
  unfolding lang.switch_inside read.switch_inside
  switch_inside_is_read k = read_map (switch_of k) after_kinded arm_is_read (λ a. within_itself (after_arm a))

  switch_is_read : {given : Type 0} → IsRead tokens stage given (λ d. lang.switch_ below d level (inner d)) (read.switch_ below_readers room readers) no (key KEY_SWITCH ∷ []) after_kinded
  unfolding lang.switch_ read.switch_
  switch_is_read =
      read_token fits (sample tokens (key KEY_SWITCH ∷ []) (Key KEY_SWITCH) refl refl refl) (λ k. in_scope_is_read tokens (switch_inside_is_read k) (λ a. fixed_else a.dangles))

  -- ---- Iteration (6.8.5)

  while_inside_is_read : {given : Type 0} (k : ℕ) →
      IsRead tokens stage given (λ d. lang.while_inside below d level (inner d) k) (read.while_inside below_readers room readers k) no (mark MARK_LEFT_PAREN ∷ []) after_kinded
  unfolding lang.while_inside read.while_inside
  while_inside_is_read k = read_map (while_of k) after_kinded arm_is_read (λ a. within_itself (after_arm a))

  while_is_read : {given : Type 0} → IsRead tokens stage given (λ d. lang.while_ below d level (inner d)) (read.while_ below_readers room readers) no (key KEY_WHILE ∷ []) after_kinded
  unfolding lang.while_ read.while_
  while_is_read =
      read_token fits (sample tokens (key KEY_WHILE ∷ []) (Key KEY_WHILE) refl refl refl) (λ k. in_scope_is_read tokens (while_inside_is_read k) (λ a. fixed_else a.dangles))

  do_apart : (b : Bool) → are_disjoint (else_if b) (key KEY_WHILE ∷ []) ≡ true
  do_apart true = refl
  do_apart false = refl

  do_inside_is_read : (k : ℕ) → IsRead tokens stage (0 < room) (λ d. lang.do_inside below d level (inner d) k) (read.do_inside below_readers room readers k) no begins_body after_kinded
  unfolding lang.do_inside read.do_inside
  do_inside_is_read k =
      read_then after_kinded body_is_read
      (λ b. read_token fits (sample tokens (key KEY_WHILE ∷ []) (Key KEY_WHILE) refl refl refl)
      (λ w. read_token deeper (sample tokens (mark MARK_LEFT_PAREN ∷ []) (Mark MARK_LEFT_PAREN) refl refl refl)
      (λ l. read_then nothing (rb.expr stage _ deeper)
      (λ c. read_token deeper (sample tokens (mark MARK_RIGHT_PAREN ∷ []) (Mark MARK_RIGHT_PAREN) refl refl refl)
      (λ r. read_token fits (sample tokens (mark MARK_SEMICOLON ∷ []) (Mark MARK_SEMICOLON) refl refl refl)
      (λ s. read_pure (do_of b c (k ∷ w ∷ l ∷ r ∷ s ∷ []))))) (λ a. refl) (λ b. refl) (λ a b. refl))))
      (λ b. do_apart b.dangles) (λ b. refl) (λ a b. refl)

  do_is_read : {given : Type 0} → IsRead tokens stage given (λ d. lang.do_ below d level (inner d)) (read.do_ below_readers room readers) no (key KEY_DO ∷ []) after_kinded
  unfolding lang.do_ read.do_
  do_is_read =
      read_token fits (sample tokens (key KEY_DO ∷ []) (Key KEY_DO) refl refl refl) (λ k. in_scope_is_read tokens (do_inside_is_read k) (λ a. fixed_else a.dangles))

  no_init_is_read : {given : Type 0} → IsRead tokens stage given (λ d. lang.no_init below d level (inner d)) (read.no_init below_readers room readers) no (mark MARK_SEMICOLON ∷ []) nothing
  unfolding lang.no_init read.no_init
  no_init_is_read = read_token deeper (sample tokens (mark MARK_SEMICOLON ∷ []) (Mark MARK_SEMICOLON) refl refl refl) (λ s. read_pure (init_.Nothing (s ∷ [])))

  value_init_is_read : {given : Type 0} → IsRead tokens stage given (λ d. lang.value_init below d level (inner d)) (read.value_init below_readers room readers) no begins_expr nothing
  unfolding lang.value_init read.value_init
  value_init_is_read =
      read_then nothing (rb.expr stage _ deeper)
      (λ e. read_token deeper (sample tokens (mark MARK_SEMICOLON ∷ []) (Mark MARK_SEMICOLON) refl refl refl) (λ s. read_pure (init_.Value e (s ∷ []))))
      (λ a. refl) (λ b. refl) (λ a b. refl)

  declared_init_is_read : {given : Type 0} →
      IsRead tokens stage given (λ d. lang.declared_init below d level (inner d)) (read.declared_init below_readers room readers) no begins_declaration nothing
  unfolding lang.declared_init read.declared_init
  declared_init_is_read = read_map init_.Declare nothing (rb.declaration stage _ deeper) (λ a. refl)

  for_init_is_read : {given : Type 0} →
      IsRead tokens stage given (λ d. lang.for_init below d level (inner d)) (read.for_init below_readers room readers) no (mark MARK_SEMICOLON ∷ begins_expr ++ begins_declaration) nothing
  unfolding lang.for_init read.for_init
  for_init_is_read = read_either no_init_is_read (read_either value_init_is_read declared_init_is_read refl) refl

  -- The mark may end the parts of a `for`.
  module _ (number : ℕ) (place : (scopes : OpenScopes) → Sample terminal_of tokens.IsToken (mark number ∷ []) scopes) (apart : are_disjoint after_expr (mark number ∷ []) ≡ true)
      (against : are_disjoint begins_expr (mark number ∷ []) ≡ true) where
    nothing_to_is_read : {given : Type 0} →
        IsRead tokens stage given (λ d. lang.nothing_to below d level (inner d) number) (read.nothing_to below_readers room readers number) no (mark number ∷ []) nothing
    unfolding lang.nothing_to read.nothing_to
    nothing_to_is_read = read_token deeper place (λ m. read_pure (maybe_expr None m))

    expr_to_is_read : {given : Type 0} → IsRead tokens stage given (λ d. lang.expr_to below d level (inner d) number) (read.expr_to below_readers room readers number) no begins_expr nothing
    unfolding lang.expr_to read.expr_to
    expr_to_is_read =
        read_then nothing (rb.expr stage _ deeper) (λ e. read_token deeper place (λ m. read_pure (maybe_expr (Some e) m))) (λ a. apart) (λ b. refl) (λ a b. refl)

    maybe_to_is_read : {given : Type 0} →
        IsRead tokens stage given (λ d. lang.maybe_to below d level (inner d) number) (read.maybe_to below_readers room readers number) no (mark number ∷ begins_expr) nothing
    unfolding lang.maybe_to read.maybe_to
    maybe_to_is_read = read_either nothing_to_is_read expr_to_is_read against

  for_inside_is_read : {given : Type 0} (k : ℕ) →
      IsRead tokens stage given (λ d. lang.for_inside below d level (inner d) k) (read.for_inside below_readers room readers k) no (mark MARK_LEFT_PAREN ∷ []) after_kinded
  unfolding lang.for_inside read.for_inside
  for_inside_is_read k =
      read_token deeper (sample tokens (mark MARK_LEFT_PAREN ∷ []) (Mark MARK_LEFT_PAREN) refl refl refl)
      (λ l. read_then after_kinded for_init_is_read
      (λ i. read_then after_kinded (maybe_to_is_read MARK_SEMICOLON (sample tokens (mark MARK_SEMICOLON ∷ []) (Mark MARK_SEMICOLON) refl refl refl) refl refl)
      (λ c. read_then after_kinded (maybe_to_is_read MARK_RIGHT_PAREN (sample tokens (mark MARK_RIGHT_PAREN ∷ []) (Mark MARK_RIGHT_PAREN) refl refl refl) refl refl)
      (λ s. read_map (for_of (for_head k l i c s)) after_kinded (read_given there body_is_read) (λ b. within_itself (after_ended b)))
      (λ a. refl) (λ b. within_itself (after_kinded b)) (λ a b. refl))
      (λ a. refl) (λ b. within_itself (after_kinded b)) (λ a b. refl))
      (λ a. refl) (λ b. within_itself (after_kinded b)) (λ a b. refl))

  for_is_read : {given : Type 0} → IsRead tokens stage given (λ d. lang.for_ below d level (inner d)) (read.for_ below_readers room readers) no (key KEY_FOR ∷ []) after_kinded
  unfolding lang.for_ read.for_
  for_is_read =
      read_token fits (sample tokens (key KEY_FOR ∷ []) (Key KEY_FOR) refl refl refl) (λ k. in_scope_is_read tokens (for_inside_is_read k) (λ a. fixed_else a.dangles))

  -- ---- Jumps (6.8.6)

  break_is_read : {given : Type 0} → IsRead tokens stage given (λ d. lang.break_ below d level (inner d)) (read.break_ below_readers room readers) no (key KEY_BREAK ∷ []) after_kinded
  unfolding lang.break_ read.break_
  break_is_read =
      read_weaker after_kinded (λ g. g) (λ a. refl)
      (read_token fits (sample tokens (key KEY_BREAK ∷ []) (Key KEY_BREAK) refl refl refl)
      (λ k. read_token fits (sample tokens (mark MARK_SEMICOLON ∷ []) (Mark MARK_SEMICOLON) refl refl refl) (λ s. read_pure (closed (kind.Break (k ∷ s ∷ []))))))

  continue_is_read : {given : Type 0} → IsRead tokens stage given (λ d. lang.continue_ below d level (inner d)) (read.continue_ below_readers room readers) no (key KEY_CONTINUE ∷ []) after_kinded
  unfolding lang.continue_ read.continue_
  continue_is_read =
      read_weaker after_kinded (λ g. g) (λ a. refl)
      (read_token fits (sample tokens (key KEY_CONTINUE ∷ []) (Key KEY_CONTINUE) refl refl refl)
      (λ k. read_token fits (sample tokens (mark MARK_SEMICOLON ∷ []) (Mark MARK_SEMICOLON) refl refl refl) (λ s. read_pure (closed (kind.Continue (k ∷ s ∷ []))))))

  goto_is_read : {given : Type 0} → IsRead tokens stage given (λ d. lang.goto_ below d level (inner d)) (read.goto_ below_readers room readers) no (key KEY_GOTO ∷ []) after_kinded
  unfolding lang.goto_ read.goto_
  goto_is_read =
      read_weaker after_kinded (λ g. g) (λ a. refl)
      (read_token fits (sample tokens (key KEY_GOTO ∷ []) (Key KEY_GOTO) refl refl refl)
      (λ k. read_token fits (sample tokens any_name Word refl refl refl)
      (λ n. read_token fits (sample tokens (mark MARK_SEMICOLON ∷ []) (Mark MARK_SEMICOLON) refl refl refl) (λ s. read_pure (closed (kind.Goto n (k ∷ s ∷ [])))))))

  return_nothing_is_read : {given : Type 0} (k : ℕ) →
      IsRead tokens stage given (λ d. lang.return_nothing below d level (inner d) k) (read.return_nothing below_readers room readers k) no (mark MARK_SEMICOLON ∷ []) after_kinded
  unfolding lang.return_nothing read.return_nothing
  return_nothing_is_read k =
      read_weaker after_kinded (λ g. g) (λ a. refl)
      (read_token fits (sample tokens (mark MARK_SEMICOLON ∷ []) (Mark MARK_SEMICOLON) refl refl refl) (λ s. read_pure (closed (kind.Return None (k ∷ s ∷ [])))))

  return_value_is_read : {given : Type 0} (k : ℕ) →
      IsRead tokens stage given (λ d. lang.return_value below d level (inner d) k) (read.return_value below_readers room readers k) no begins_expr after_kinded
  unfolding lang.return_value read.return_value
  return_value_is_read k =
      read_then after_kinded (rb.expr stage _ fits)
      (λ e. read_token fits (sample tokens (mark MARK_SEMICOLON ∷ []) (Mark MARK_SEMICOLON) refl refl refl) (λ s. read_pure (closed (kind.Return (Some e) (k ∷ s ∷ [])))))
      (λ a. refl) (λ b. refl) (λ a b. refl)

  return_is_read : {given : Type 0} → IsRead tokens stage given (λ d. lang.return_ below d level (inner d)) (read.return_ below_readers room readers) no (key KEY_RETURN ∷ []) after_kinded
  unfolding lang.return_ read.return_
  return_is_read =
      read_token fits (sample tokens (key KEY_RETURN ∷ []) (Key KEY_RETURN) refl refl refl) (λ k. read_either (return_nothing_is_read k) (return_value_is_read k) refl)

  -- ---- Statements (6.8)

  kinded_is_read : {given : Type 0} →
      IsRead tokens stage given (λ d. lang.kinded below d level (inner d)) (read.kinded below_readers room readers) no
      (mark MARK_SEMICOLON ∷ mark MARK_LEFT_BRACE ∷ key KEY_IF ∷ key KEY_WHILE ∷ key KEY_DO ∷ key KEY_FOR ∷ key KEY_SWITCH ∷ key KEY_BREAK ∷ key KEY_CONTINUE ∷ key KEY_GOTO ∷
      key KEY_RETURN ∷ []) after_kinded
  unfolding lang.kinded read.kinded
  kinded_is_read =
      read_either empty_is_read (read_either braced_is_read (read_either if_is_read (read_either while_is_read (read_either do_is_read (read_either for_is_read
      (read_either switch_is_read (read_either break_is_read (read_either continue_is_read (read_either goto_is_read return_is_read
      refl) refl) refl) refl) refl) refl) refl) refl) refl) refl

  kinded_turn_is_read : {given : Type 0} (labels : List label.Mark) →
      IsRead tokens stage given (λ d. lang.kinded_turn below d level (inner d) labels) (read.kinded_turn below_readers room readers labels) no
      (mark MARK_SEMICOLON ∷ mark MARK_LEFT_BRACE ∷ key KEY_IF ∷ key KEY_WHILE ∷ key KEY_DO ∷ key KEY_FOR ∷ key KEY_SWITCH ∷ key KEY_BREAK ∷ key KEY_CONTINUE ∷ key KEY_GOTO ∷
      key KEY_RETURN ∷ []) after_turn
  unfolding lang.kinded_turn read.kinded_turn
  kinded_turn_is_read labels = read_map (λ k. Done (ended_of labels k)) after_turn kinded_is_read (λ k. within_itself (after_kinded k))

  value_turn_is_read : {given : Type 0} (labels : List label.Mark) →
      IsRead tokens stage given (λ d. lang.value_turn below d level (inner d) labels) (read.value_turn below_readers room readers labels) no begins_expr after_turn
  unfolding lang.value_turn read.value_turn
  value_turn_is_read labels = read_map (λ k. Done (ended_of labels k)) after_turn value_is_read (λ k. within_itself (after_kinded k))

  case_turn_is_read : {given : Type 0} (labels : List label.Mark) →
      IsRead tokens stage given (λ d. lang.case_turn below d level (inner d) labels) (read.case_turn below_readers room readers labels) no (key KEY_CASE ∷ []) after_turn
  unfolding lang.case_turn read.case_turn
  case_turn_is_read labels =
      read_token fits (sample tokens (key KEY_CASE ∷ []) (Key KEY_CASE) refl refl refl)
      (λ k. read_then after_turn (rb.constant stage _ fits)
      (λ v. read_token fits (sample tokens a_colon (Mark MARK_COLON) refl refl refl) (λ c. read_pure (Again (with_case labels k v c))))
      (λ a. refl) (λ b. refl) (λ a b. refl))

  default_turn_is_read : {given : Type 0} (labels : List label.Mark) →
      IsRead tokens stage given (λ d. lang.default_turn below d level (inner d) labels) (read.default_turn below_readers room readers labels) no (key KEY_DEFAULT ∷ []) after_turn
  unfolding lang.default_turn read.default_turn
  default_turn_is_read labels =
      read_weaker after_turn (λ g. g) (λ a. refl)
      (read_token fits (sample tokens (key KEY_DEFAULT ∷ []) (Key KEY_DEFAULT) refl refl refl)
      (λ k. read_token fits (sample tokens a_colon (Mark MARK_COLON) refl refl refl) (λ c. read_pure (Again (with_default labels k c)))))

  name_turn_is_read : {given : Type 0} (labels : List label.Mark) →
      IsRead tokens stage given (λ d. lang.name_turn below d level (inner d) labels) (read.name_turn below_readers room readers labels) no any_name after_turn
  unfolding lang.name_turn read.name_turn
  name_turn_is_read labels =
      read_weaker after_turn (λ g. g) (λ a. refl)
      (read_token fits (sample tokens any_name Word refl refl refl)
      (λ n. read_token fits (sample tokens a_colon (Mark MARK_COLON) refl refl refl) (λ c. read_pure (Again (with_label labels n c)))))

  keyed_turn_is_read : {given : Type 0} (labels : List label.Mark) →
      IsRead tokens stage given (λ d. lang.keyed_turn below d level (inner d) labels) (read.keyed_turn below_readers room readers labels) no a_statement_mark after_turn
  unfolding lang.keyed_turn read.keyed_turn
  keyed_turn_is_read labels = read_either (case_turn_is_read labels) (read_either (default_turn_is_read labels) (kinded_turn_is_read labels) refl) refl

  other_turn_is_read : {given : Type 0} (labels : List label.Mark) →
      IsRead tokens stage given (λ d. lang.other_turn below d level (inner d) labels) (read.other_turn below_readers room readers labels) no begins_other after_turn
  unfolding lang.other_turn read.other_turn
  other_turn_is_read labels = read_either (keyed_turn_is_read labels) (value_turn_is_read labels) refl

  -- ---- Behind a name

  abbrev Word' : Type 0
  Word' = List (Leveled KeptToken)

  abbrev Label' : Type 0
  Label' = Turn (List label.Mark) Ended × OpenScopes

  -- Two tokens, of which the second is a colon.
  colon_behind : (scopes scopes' : OpenScopes) (w front back front' back' : Word') (n c t : KeptToken) (vs : List KeptToken) → tokens_of w ≡ t ∷ vs → w ≡ front ++ back →
      front ≡ (n, level) ∷ [] → back ≡ front' ++ back' → front' ≡ (c, level) ∷ [] → scopes' ≡ scopes → has a_colon (terminal_of scopes' c) ≡ true → begins (IsColon scopes) vs ≡ true
  colon_behind scopes scopes' w front back front' back' n c t vs e f g h i j k =
      let v : c ∷ tokens_of back' ≡ vs = cc in
      subst (λ z. begins (IsColon scopes) z ≡ true) v (subst (λ z. has a_colon (terminal_of z c) ≡ true) j k)

  -- A label's second token is a colon.
  behind_label : (d : ℕ) (labels : List label.Mark) (scopes : OpenScopes) (w : Word') (end : Label') (t : KeptToken) (vs : List KeptToken) →
      lang.name_turn below d level (inner d) labels scopes w end → tokens_of w ≡ t ∷ vs → begins (IsColon scopes) vs ≡ true
  unfolding lang.name_turn
  behind_label d labels scopes w end t vs x e =
      colon_behind scopes x.value.1 w x.front x.back x.rest.front x.rest.back x.begin.token x.rest.begin.token t vs e x.split x.begin.is x.rest.split x.rest.begin.is
      (ap (λ (z : _). z.1) x.begin.value) x.rest.begin.fits

  -- That of an expression with its semicolon is none, where it begins with a name.
  behind_expr : (d : ℕ) → Covers stage d → (scopes scopes' : OpenScopes) (front rest : Word') (end : Expr × OpenScopes) (s : KeptToken) → below.expr d level scopes front end →
      has (mark MARK_SEMICOLON ∷ []) (terminal_of scopes' s) ≡ true → (t : KeptToken) (vs : List KeptToken) → tokens_of (front ++ (s, level) ∷ rest) ≡ t ∷ vs →
      has a_name (terminal_of scopes t) ≡ true → begins (λ u. not (IsColon scopes u)) vs ≡ true
  behind_expr d h scopes scopes' [] rest end s x f t vs e n = never (((rb.expr stage (Prim.Unit {0}) fits).predictive d h scopes).nullable end x)
  behind_expr d h scopes scopes' (z ∷ []) rest end s x f t vs e n =
      let k : s ∷ tokens_of rest ≡ vs = cc in
      subst (λ r. begins (λ u. not (IsColon scopes u)) r ≡ true) k
      (no_colon (terminal_of scopes s) (IsColon scopes s) refl (fixed (mark MARK_SEMICOLON ∷ []) refl scopes scopes' s ∙ f))
  behind_expr d h scopes scopes' (z ∷ y ∷ front) rest end s x f t vs e n =
      let k : y.0 ∷ tokens_of (front ++ (s, level) ∷ rest) ≡ vs = cc in
      let same : t ≡ z.0 = cc in
      subst (λ r. begins (λ u. not (IsColon scopes u)) r ≡ true) k
      (not_false (IsColon scopes y.0)
      (rb.behind_name d level scopes (z ∷ y ∷ front) end z.0 (y.0 ∷ tokens_of front) x refl (subst (λ r. has a_name (terminal_of scopes r) ≡ true) same n)))

  behind_value : (d : ℕ) → Covers stage d → (scopes : OpenScopes) (w : Word') (end : Kinded × OpenScopes) (t : KeptToken) (vs : List KeptToken) →
      lang.value below d level (inner d) scopes w end → tokens_of w ≡ t ∷ vs → has a_name (terminal_of scopes t) ≡ true → begins (λ u. not (IsColon scopes u)) vs ≡ true
  unfolding lang.value
  behind_value d h scopes w end t vs x e n =
      let is : w ≡ x.front ++ (x.rest.begin.token, level) ∷ x.rest.back = x.split ∙ ap (λ r. x.front ++ r) (x.rest.split ∙ ap (λ r. r ++ x.rest.back) x.rest.begin.is) in
      behind_expr d h scopes x.value.1 x.front x.rest.back x.value x.rest.begin.token x.begin x.rest.begin.fits t vs (sym (ap tokens_of is) ∙ e) n

  behind_other : (d : ℕ) → Covers stage d → (labels : List label.Mark) (scopes : OpenScopes) (w : Word') (end : Label') (t : KeptToken) (vs : List KeptToken) →
      lang.other_turn below d level (inner d) labels scopes w end → tokens_of w ≡ t ∷ vs → has a_name (terminal_of scopes t) ≡ true → begins (λ u. not (IsColon scopes u)) vs ≡ true
  unfolding lang.other_turn lang.value_turn
  behind_other d h labels scopes w end t vs (inl x) e n =
      absurd (disjoint a_statement_mark a_name refl (terminal_of scopes t) (head_fits ((keyed_turn_is_read {given = Prim.Unit {0}} labels).predictive d h scopes) w end t vs e x) n)
  behind_other d h labels scopes w end t vs (inr x) e n =
      behind_front (λ u. not (IsColon scopes u)) x.front x.back w t vs x.split e
      (λ f. never (((value_is_read {given = Prim.Unit {0}}).predictive d h scopes).nullable x.value (subst (λ r. lang.value below d level (inner d) scopes r x.value) f x.begin)))
      (λ us g. behind_value d h scopes x.front x.value t us x.begin g n)

  turn_is_read : {given : Type 0} (labels : List label.Mark) →
      IsRead tokens stage given (λ d. lang.turn below d level (inner d) labels) (read.turn below_readers room readers labels) no begins_statement after_turn
  unfolding lang.turn read.turn
  turn_is_read labels =
      read_by_second a_name a_colon a_typedef_name begins_other (name_turn_is_read labels) (other_turn_is_read labels) refl refl refl refl refl
      (λ d h scopes w end t vs x e n. behind_label d labels scopes w end t vs x e) (λ d h scopes w end t vs y e n. behind_other d h labels scopes w end t vs y e n)

  pub statement_is_read : {given : Type 0} → IsRead tokens stage given (λ d. lang.statement below d level (inner d)) (read.statement below_readers room readers) no begins_statement after_ended
  unfolding lang.statement read.statement
  statement_is_read = read_repeat [] after_ended turn_is_read refl (turn_ends tokens below level inner) []

  -- ---- Items of blocks (6.8.2)

  behind_turn : (d : ℕ) → Covers stage d → (scopes : OpenScopes) (w : Word') (end : Label') (t : KeptToken) (vs : List KeptToken) →
      lang.turn below d level (inner d) [] scopes w end → tokens_of w ≡ t ∷ vs → has a_typedef_name (terminal_of scopes t) ≡ true → begins (IsColon scopes) vs ≡ true
  unfolding lang.turn
  behind_turn d h scopes w end t vs (inl x) e n = behind_label d [] scopes w end t vs x e
  behind_turn d h scopes w end t vs (inr x) e n =
      absurd (disjoint begins_other a_typedef_name refl (terminal_of scopes t) (head_fits ((other_turn_is_read {given = Prim.Unit {0}} []).predictive d h scopes) w end t vs e x) n)

  behind_turns : (n d : ℕ) → Covers stage d → (scopes : OpenScopes) (w : Word') (end : Ended × OpenScopes) (t : KeptToken) (vs : List KeptToken) →
      repeat n (lang.turn below d level (inner d)) [] scopes w end → tokens_of w ≡ t ∷ vs → has a_typedef_name (terminal_of scopes t) ≡ true → begins (IsColon scopes) vs ≡ true
  unfolding repeat
  behind_turns zero d h scopes w end t vs x e n = absurd x
  behind_turns (suc m) d h scopes w end t vs x e n =
      behind_front (IsColon scopes) x.front x.back w t vs x.split e
      (λ f. never (((turn_is_read {given = Prim.Unit {0}} []).predictive d h scopes).nullable x.value (subst (λ r. lang.turn below d level (inner d) [] scopes r x.value) f x.begin)))
      (λ us g. behind_turn d h scopes x.front x.value t us x.begin g n)

  else_within : (b : Bool) → is_within (else_if b) an_else ≡ true
  else_within true = refl
  else_within false = refl

  statement_item_is_read : {given : Type 0} →
      IsRead tokens stage given (λ d. lang.statement_item below d level (inner d)) (read.statement_item below_readers room readers) no begins_statement (λ i. an_else)
  unfolding lang.statement_item read.statement_item
  statement_item_is_read = read_map (λ e. item_.Do e.stmt) (λ i. an_else) statement_is_read (λ e. else_within e.dangles)

  declaration_item_is_read : {given : Type 0} →
      IsRead tokens stage given (λ d. lang.declaration_item below d level (inner d)) (read.declaration_item below_readers room readers) no begins_declaration (λ i. an_else)
  unfolding lang.declaration_item read.declaration_item
  declaration_item_is_read = read_map item_.Declare (λ i. an_else) (rb.declaration stage _ fits) (λ a. refl)

  behind_statement : (d : ℕ) → Covers stage d → (scopes : OpenScopes) (w : Word') (end : BlockItem × OpenScopes) (t : KeptToken) (vs : List KeptToken) →
      lang.statement_item below d level (inner d) scopes w end → tokens_of w ≡ t ∷ vs → has a_typedef_name (terminal_of scopes t) ≡ true → begins (IsColon scopes) vs ≡ true
  unfolding lang.statement_item lang.statement
  behind_statement d h scopes w end t vs x e n =
      behind_front (IsColon scopes) x.front x.back w t vs x.split e
      (λ f. never (((statement_is_read {given = Prim.Unit {0}}).predictive d h scopes).nullable x.value (subst (λ r. lang.statement below d level (inner d) scopes r x.value) f x.begin)))
      (λ us g. behind_turns d d h scopes x.front x.value t us x.begin g n)

  behind_declaration : (d : ℕ) → Covers stage d → (scopes : OpenScopes) (w : Word') (end : BlockItem × OpenScopes) (t : KeptToken) (vs : List KeptToken) →
      lang.declaration_item below d level (inner d) scopes w end → tokens_of w ≡ t ∷ vs → has a_typedef_name (terminal_of scopes t) ≡ true →
      begins (λ u. not (IsColon scopes u)) vs ≡ true
  unfolding lang.declaration_item
  behind_declaration d h scopes w end t vs x e n =
      behind_front (λ u. not (IsColon scopes u)) x.front x.back w t vs x.split e
      (λ f. never (((rb.declaration stage (Prim.Unit {0}) fits).predictive d h scopes).nullable x.value (subst (λ r. below.declaration d level scopes r x.value) f x.begin)))
      (λ us g. rb.behind_typedef_name d level scopes x.front x.value t us x.begin g n)

  pub item_is_read : {given : Type 0} → IsRead tokens stage given (λ d. lang.item below d level (inner d)) (read.item below_readers room readers) no begins_item (λ i. an_else)
  unfolding lang.item read.item
  item_is_read =
      read_by_second a_typedef_name a_colon begins_plain begins_declaration statement_item_is_read declaration_item_is_read refl refl refl refl refl
      (λ d h scopes w end t vs x e n. behind_statement d h scopes w end t vs x e n) (λ d h scopes w end t vs y e n. behind_declaration d h scopes w end t vs y e n)
