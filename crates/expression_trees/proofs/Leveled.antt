-- The levels of a word are those that its brackets and `?` give: a walk over the tokens keeps what
-- is open. One term a rule.

use Rattle.std.proofs.Common.{◌≡◌, ◌⊎◌, inl, inr, ℕ, zero, suc, ◌+◌, ◌-◌, ◌==◌, ◌||◌, if◌then◌else◌, Bool, true, false, List, [], ◌∷◌, ◌++◌, Option, Some, length, sum, map, refl, sym, ap, ◌∙◌, subst, arith, eqb-true}
use Rattle.std.specs.List.{fold}
use Rattle.c_lexer.specs.declared.token.Kind.{Kind}
use Rattle.c_lexer.specs.declared.token.Kind.TheVariants as k
use Rattle.c_lexer.specs.declared.keyword.TheConstants.{KEY_SIZEOF, KEY_ALIGNOF}
use Rattle.c_lexer.specs.declared.mark.TheConstants.{MARK_LEFT_BRACKET, MARK_RIGHT_BRACKET}
use Rattle.c_lexer.specs.declared.mark.TheConstants.{MARK_LEFT_PAREN, MARK_RIGHT_PAREN}
use Rattle.c_lexer.specs.declared.mark.TheConstants.{MARK_LEFT_BRACE, MARK_RIGHT_BRACE}
use Rattle.c_lexer.specs.declared.mark.TheConstants.{MARK_DOT, MARK_ARROW, MARK_COMMA}
use Rattle.c_lexer.specs.declared.mark.TheConstants.{MARK_QUESTION, MARK_COLON}
use Rattle.c_scopes.specs.Scopes.{OpenScopes}
use Rattle.c_tree.specs.declared.tree.TypeName.{TypeName}
use Rattle.c_tree.specs.declared.tree.InitItem.{InitItem}
use Rattle.c_tree.specs.declared.tree.Expr.{Expr}
use Rattle.c_tree.specs.declared.tree.Assign.{Assign}
use Rattle.c_tree.specs.declared.tree.Prefixed.{Prefixed}
use Rattle.c_tree.specs.declared.tree.Prefix.{Prefix}
use Rattle.c_tree.specs.declared.tree.Prefix.TheVariants as prefix
use Rattle.c_tree.specs.declared.tree.BaseForm.TheVariants as form
use Rattle.c_tree.specs.declared.tree.Post.TheVariants as post
use Rattle.c_tree.specs.Levels.{Nesting, nesting_level, closed, after_token, opens_at, is_opening, is_closing, is_mark}
use Rattle.reading.specs.declared.turn.Turn.{Turn}
use Rattle.reading.specs.declared.turn.Turn.TheVariants.{Again, Done}
use Rattle.reading.specs.Terminals.{has, are_disjoint}
use Rattle.reading.specs.Languages.{Leveled, steps}
use Rattle.reading.specs.Rules.{◌>>=◌, ◌or◌, pure, one, many, repeat, after}
use Rattle.reading.proofs.Sets.{never, disjoint}
use Rattle.c_reading.specs.Kept.{KeptToken}
use Rattle.c_reading.specs.Cursors.{terminal_in}
use Rattle.c_reading.specs.Terminals.{TEXT, mark, key, terminal_where}
use Rattle.c_syntax.specs.declared.forms.Parts.{Parts}
use Rattle.c_syntax.specs.declared.forms.Items.{Items}
use Rattle.c_syntax.specs.declared.forms.Arms.{Arms}
use Rattle.c_syntax.specs.declared.forms.Begun.{Begun}
use Rattle.c_syntax.specs.declared.forms.Mode.{Mode}
use Rattle.c_syntax.specs.declared.forms.Mode.TheVariants.{Cast, Literal, Size}
use Rattle.c_syntax.specs.declared.forms.Chain.{Chain}
use Rattle.c_syntax.specs.declared.forms.Found.{Found}
use Rattle.c_syntax.specs.declared.forms.Found.TheVariants.{Operand, Sized}
use Rattle.c_syntax.specs.Scoping.{Part, is_typedef_name, terminal_of}
use Rattle.c_syntax.specs.Sets.{a_name, any_name, a_constant, a_step, a_unary, a_binary, an_assignment}
use Rattle.c_syntax.specs.Steps.{one_among, one_mark}
use Rattle.c_syntax.specs.Forms.{one_part, with_part, expr_of, call_of, one_item, with_item, with_mark, compound_of, flushed, chain_start, with_op, with_size, with_cast, prefixed_of, is_target, begun_of, binary_of, arms_start, with_arm, assign_of}
use Rattle.c_syntax.specs.Inner.{Inner}
use Rattle.c_syntax.specs.ExpressionRules as lang
use Rattle.expression_trees.specs.ExactTrees as goal
use Rattle.expression_trees.proofs.Tokens.{mark_is}

-- The marks by which levels change.
abbrev shaping : List ℕ
shaping = map mark (MARK_LEFT_PAREN ∷ MARK_LEFT_BRACKET ∷ MARK_LEFT_BRACE ∷ MARK_RIGHT_PAREN ∷ MARK_RIGHT_BRACKET ∷ MARK_RIGHT_BRACE ∷ MARK_QUESTION ∷ MARK_COLON ∷ [])

abbrev pub inside_of : Nesting → Nesting
inside_of n = record { innermost = 0; around = n.innermost ∷ n.around }

abbrev pub asked : Nesting → Nesting
asked n = record { innermost = n.innermost + 1; around = n.around }

sum_from : (a : ℕ) (xs : List ℕ) → fold ◌+◌ a xs ≡ a + fold ◌+◌ 0 xs
sum_from a [] = omega arith
sum_from a (x ∷ xs) = omega (arith, sum_from (a + x) xs, sum_from (0 + x) xs)

inside_level : (n : Nesting) → nesting_level (inside_of n) ≡ suc (nesting_level n)
inside_level n = let e : fold ◌+◌ (0 + n.innermost) n.around ≡ (0 + n.innermost) + fold ◌+◌ 0 n.around = sum_from (0 + n.innermost) n.around in omega (arith, e)

asked_level : (n : Nesting) → nesting_level (asked n) ≡ suc (nesting_level n)
asked_level n = omega arith

is_false : (b : Bool) → (b ≡ true → ⊥) → b ≡ false
is_false true h = absurd (h refl)
is_false false h = refl

-- A mark that changes no level.
other_mark : (m x : ℕ) → (has shaping (mark m) ≡ true → ⊥) → has shaping (mark x) ≡ true → (m == x) ≡ false
other_mark m x h g = is_false (m == x) (λ e. h (subst (λ z. has shaping (mark z) ≡ true) (sym (eqb-true m x e)) g))

abbrev one_if : Bool → ℕ
one_if b = if b then 1 else 0

flat_by : (n x y z w : Nesting) (a b c d e f g h : Bool) → a ≡ false → b ≡ false → c ≡ false → d ≡ false → e ≡ false → f ≡ false → g ≡ false → h ≡ false →
    (one_if (a || b || c) ≡ 0) × ((if a || b || c then x else (if d || e || f then y else (if g then z else (if h then w else n)))) ≡ n)
flat_by n x y z w a b c d e f g h ea eb ec ed ee ef eg eh = rw (ea, eb, ec, ed, ee, ef, eg, eh) (refl, refl)

flat_kind : (n : Nesting) (t : List ℕ → Bool) (kind : Kind) (bytes : List ℕ) → (has shaping (terminal_where t kind bytes) ≡ true → ⊥) → (opens_at (Some kind) ≡ 0) × (after_token n kind ≡ n)
flat_kind n t (k.Mark m) bytes h = flat_by n _ _ _ _ (m == MARK_LEFT_PAREN) (m == MARK_LEFT_BRACKET) (m == MARK_LEFT_BRACE) (m == MARK_RIGHT_PAREN) (m == MARK_RIGHT_BRACKET) (m == MARK_RIGHT_BRACE) (m == MARK_QUESTION) (m == MARK_COLON)
    (other_mark m MARK_LEFT_PAREN h refl) (other_mark m MARK_LEFT_BRACKET h refl) (other_mark m MARK_LEFT_BRACE h refl) (other_mark m MARK_RIGHT_PAREN h refl) (other_mark m MARK_RIGHT_BRACKET h refl) (other_mark m MARK_RIGHT_BRACE h refl)
    (other_mark m MARK_QUESTION h refl) (other_mark m MARK_COLON h refl)
flat_kind n t k.Word bytes h = (refl, refl)
flat_kind n t (k.Key m) bytes h = (refl, refl)
flat_kind n t k.Number bytes h = (refl, refl)
flat_kind n t k.Char bytes h = (refl, refl)
flat_kind n t k.Text bytes h = (refl, refl)
flat_kind n t k.Line bytes h = (refl, refl)
flat_kind n t k.Pragma bytes h = (refl, refl)

-- The level around is given.
module _ (base : ℕ) where
  abbrev level_at : Nesting → Kind → ℕ
  level_at n kind = goal.level_at base n kind

  abbrev Walks : Nesting → List (Leveled KeptToken) → Nesting → Type 0
  Walks n w m = goal.Walks base n w m

  walks_append : (n m o : Nesting) (v w : List (Leveled KeptToken)) → Walks n v m → Walks m w o → Walks n (v ++ w) o
  walks_append n m o [] w p q = subst (λ z. Walks z w o) (sym p) q
  walks_append n m o (x ∷ v) w p q = (p.0, walks_append (after_token n x.0.lexeme.kind) m o v w p.1 q)

  pub record Keeps {A : Type 0} (X : Part A) (n : Nesting) (r : A → Nesting) : Type 0 where
    pub keeps : (scopes : OpenScopes) (w : List (Leveled KeptToken)) (e : A × OpenScopes) → X scopes w e → Walks n w (r e.0)

  pub k_pure : {A : Type 0} {n : Nesting} {r : A → Nesting} (a : A) → n ≡ r a → Keeps (pure a) n r
  k_pure {n = n} {r = r} a e = record { keeps = λ scopes w b x. subst (λ z. Walks n z (r b.0)) (sym x.none) (e ∙ ap r (sym (ap (λ (z : _). z.0) x.same))) }

  pub k_then : {A B : Type 0} {X : Part A} {f : A → Part B} {n : Nesting} {r : A → Nesting} {s : B → Nesting} → Keeps X n r → ((a : A) → Keeps (f a) (r a) s) → Keeps (X >>= f) n s
  k_then {n = n} {r = r} {s = s} p q = record {
    keeps = λ scopes w b x. subst (λ z. Walks n z (s b.0)) (sym x.split)
        (walks_append n (r x.value.0) (s b.0) x.front x.back (p.keeps scopes x.front x.value x.begin) ((q x.value.0).keeps x.value.1 x.back b x.rest));
  }

  either : {A : Type 0} {X Y : Part A} {n : Nesting} {r : A → Nesting} → Keeps X n r → Keeps Y n r → (scopes : OpenScopes) (w : List (Leveled KeptToken)) (e : A × OpenScopes) → X scopes w e ⊎ Y scopes w e → Walks n w (r e.0)
  either p q scopes w e (inl x) = p.keeps scopes w e x
  either p q scopes w e (inr y) = q.keeps scopes w e y

  pub k_or : {A : Type 0} {X Y : Part A} {n : Nesting} {r : A → Nesting} → Keeps X n r → Keeps Y n r → Keeps (X or Y) n r
  k_or p q = record { keeps = either p q }

  k_one : {B : Type 0} {f : ℕ → Part B} {s : B → Nesting} (set : List ℕ) (level : ℕ) (n m : Nesting) →
      ((t : List ℕ → Bool) (kind : Kind) (bytes : List ℕ) → has set (terminal_where t kind bytes) ≡ true → (level ≡ level_at n kind) × (after_token n kind ≡ m)) →
      ((x : ℕ) → Keeps (f x) m s) → Keeps (one_among set level >>= f) n s
  unfolding terminal_in
  k_one set level n m h q = k_then {r = λ x. m} (record {
    keeps = λ scopes w e x. subst (λ z. Walks n z m) (sym x.is)
        (h (is_typedef_name scopes) x.token.lexeme.kind x.token.lexeme.spelling x.fits);
  }) q

  pub k_flat : {B : Type 0} {f : ℕ → Part B} {s : B → Nesting} (set : List ℕ) {level : ℕ} {n : Nesting} → are_disjoint set shaping ≡ true → level ≡ base + nesting_level n →
      ((x : ℕ) → Keeps (f x) n s) → Keeps (one_among set level >>= f) n s
  k_flat set {level = level} {n = n} d e q = k_one set level n n
      (λ t kind bytes h. let r = flat_kind n t kind bytes (disjoint set shaping d (terminal_where t kind bytes) h) in (omega (arith, e, r.0), r.1)) q

  opens : (m : ℕ) (n : Nesting) (b : Bool) → is_opening (k.Mark m) ≡ b → b ≡ true → (opens_at (Some (k.Mark m)) ≡ 1) × (after_token n (k.Mark m) ≡ inside_of n)
  opens m n true e h = rw e (refl, refl)
  opens m n false e h = never h

  shuts : (m : ℕ) (n : Nesting) → is_opening (k.Mark m) ≡ false → is_closing (k.Mark m) ≡ true → (opens_at (Some (k.Mark m)) ≡ 0) × (after_token (inside_of n) (k.Mark m) ≡ n)
  shuts m n e h = rw (e, h) (refl, refl)

  by_mark : (m : ℕ) (P : Kind → Type 0) → P (k.Mark m) → (t : List ℕ → Bool) (kind : Kind) (bytes : List ℕ) → has (mark m ∷ []) (terminal_where t kind bytes) ≡ true → P kind
  by_mark m P p t kind bytes h = subst P (sym (mark_is m t kind bytes h)) p

  pub k_open : {B : Type 0} {f : ℕ → Part B} {s : B → Nesting} (m : ℕ) {level : ℕ} {n : Nesting} → is_opening (k.Mark m) ≡ true → level ≡ base + nesting_level n →
      ((x : ℕ) → Keeps (f x) (inside_of n) s) → Keeps (one_mark m (suc level) >>= f) n s
  k_open m {level = level} {n = n} o e q = k_one (mark m ∷ []) (suc level) n (inside_of n)
      (by_mark m (λ kind. (suc level ≡ level_at n kind) × (after_token n kind ≡ inside_of n)) (let r = opens m n _ refl o in (omega (arith, e, r.0), r.1))) q

  pub k_shut : {B : Type 0} {f : ℕ → Part B} {s : B → Nesting} (m : ℕ) {level : ℕ} {n : Nesting} → is_opening (k.Mark m) ≡ false → is_closing (k.Mark m) ≡ true → level ≡ base + nesting_level n →
      ((x : ℕ) → Keeps (f x) n s) → Keeps (one_mark m (suc level) >>= f) (inside_of n) s
  k_shut m {level = level} {n = n} o c e q = k_one (mark m ∷ []) (suc level) (inside_of n) n
      (by_mark m (λ kind. (suc level ≡ level_at (inside_of n) kind) × (after_token (inside_of n) kind ≡ n)) (let r = shuts m n o c in (omega (arith, e, r.0, inside_level n), r.1))) q

  pub k_ask : {B : Type 0} {f : ℕ → Part B} {s : B → Nesting} {level : ℕ} {n : Nesting} → level ≡ base + nesting_level n →
      ((x : ℕ) → Keeps (f x) (asked n) s) → Keeps (one_mark MARK_QUESTION level >>= f) n s
  k_ask {level = level} {n = n} e q = k_one (mark MARK_QUESTION ∷ []) level n (asked n)
      (by_mark MARK_QUESTION (λ kind. (level ≡ level_at n kind) × (after_token n kind ≡ asked n)) (omega (arith, e), refl)) q

  pub k_colon : {B : Type 0} {f : ℕ → Part B} {s : B → Nesting} {level : ℕ} {n : Nesting} → level ≡ base + nesting_level n →
      ((x : ℕ) → Keeps (f x) n s) → Keeps (one_mark MARK_COLON (suc level) >>= f) (asked n) s
  k_colon {level = level} {n = n} e q = k_one (mark MARK_COLON ∷ []) (suc level) (asked n) n
      (by_mark MARK_COLON (λ kind. (suc level ≡ level_at (asked n) kind) × (after_token (asked n) kind ≡ n))
      (omega (arith, e, asked_level n), ap (λ (i : ℕ). record { innermost = i; around = n.around }) (let f : (n.innermost + 1) - 1 ≡ n.innermost = omega arith in f))) q

  k_steps : {S : Type 0} {n : Nesting} (d : ℕ) {step : S → Part S} → ((a : S) → Keeps (step a) n (λ b. n)) → (a : S) → Keeps (λ scope. steps d (λ end. step end.0 end.1) (a, scope)) n (λ b. n)
  unfolding steps
  k_steps zero p a = k_pure a refl
  k_steps (suc d) p a = k_or (k_then (p a) (λ b. k_steps d p b)) (k_pure a refl)

  pub k_many : {S : Type 0} {n : Nesting} (d : ℕ) {step : S → Part S} → ((a : S) → Keeps (step a) n (λ b. n)) → (a : S) → Keeps (many d step a) n (λ b. n)
  k_many d p a = k_steps d p a

  abbrev by_turn : {S A : Type 0} → Nesting → Nesting → Turn S A → Nesting
  by_turn n m (Again b) = n
  by_turn n m (Done a) = m

  k_after : {S A : Type 0} {n m : Nesting} {go : S → Part A} → ((a : S) → Keeps (go a) n (λ b. m)) → (t : Turn S A) → Keeps (after go t) (by_turn n m t) (λ b. m)
  k_after p (Again a) = p a
  k_after p (Done a) = k_pure a refl

  pub k_repeat : {S A : Type 0} {n m : Nesting} (d : ℕ) {turn : S → Part (Turn S A)} → ((a : S) → Keeps (turn a) n (by_turn n m)) → (a : S) → Keeps (repeat d turn a) n (λ b. m)
  unfolding repeat
  k_repeat zero p a = record { keeps = λ scopes w e x. absurd x }
  k_repeat (suc d) p a = k_then (p a) (k_after (λ b. k_repeat d p b))

  -- ---- Rules

  k_texts : (d level : ℕ) (n : Nesting) → level ≡ base + nesting_level n → (ns : List ℕ) → Keeps (lang.more_texts d level ns) n (λ a. n)
  unfolding lang.more_texts lang.one_more_text
  k_texts d level n e ns = k_many d (λ ms. k_flat (TEXT ∷ []) refl e (λ m. k_pure (ms ++ m ∷ []) refl)) ns

  module _ (d level : ℕ) (n : Nesting) (e : level ≡ base + nesting_level n) (X : Part Assign) (ki : Keeps X n (λ a. n)) where
    k_parts : (ms : List ℕ) → Keeps (lang.parts d level X ms) n (λ a. n)
    unfolding lang.parts lang.all_parts lang.more_parts
    k_parts ms = k_then ki (λ a. k_many d (λ p. k_flat (mark MARK_COMMA ∷ []) refl e (λ m. k_then ki (λ x. k_pure (with_part p m x) refl))) (one_part a ms))

    pub k_expr : Keeps (lang.inner_expr d level X) n (λ a. n)
    unfolding lang.inner_expr
    k_expr = k_then (k_parts []) (λ p. k_pure (expr_of p) refl)

  -- What stands in brackets leaves open what was open.
  pub record InnerKeeps (level : ℕ) (rules : Inner) : Type 0 where
    pub assign : (n : Nesting) → level ≡ base + nesting_level n → Keeps (rules.assign) n (λ a. n)
    pub type_name : (n : Nesting) → level ≡ base + nesting_level n → Keeps (rules.type_name) n (λ a. n)
    pub item : (n : Nesting) → level ≡ base + nesting_level n → Keeps (rules.item) n (λ a. n)

  module _ (d level : ℕ) (n : Nesting) (e : level ≡ base + nesting_level n) (rules : Inner) (ki : InnerKeeps (suc level) rules) where
    within : suc level ≡ base + nesting_level (inside_of n)
    within = omega (arith, e, inside_level n)

    asking : suc level ≡ base + nesting_level (asked n)
    asking = omega (arith, e, asked_level n)

    k_inside : Keeps (lang.inner_expr d (suc level) (rules.assign)) (inside_of n) (λ a. inside_of n)
    k_inside = k_expr d (suc level) (inside_of n) within (rules.assign) (ki.assign (inside_of n) within)

    k_suffix : Keeps (lang.suffix d level rules) n (λ a. n)
    unfolding lang.suffix lang.index lang.call lang.no_arguments lang.some_arguments lang.dot lang.arrow lang.step
    k_suffix =
        k_or (k_open MARK_LEFT_BRACKET refl e (λ l. k_then k_inside (λ x. k_shut MARK_RIGHT_BRACKET refl refl e (λ r. k_pure (post.Index x (l ∷ r ∷ [])) refl))))
        (k_or (k_open MARK_LEFT_PAREN refl e (λ l. k_or (k_shut MARK_RIGHT_PAREN refl refl e (λ r. k_pure (post.Call [] (l ∷ r ∷ [])) refl))
        (k_then (k_parts d (suc level) (inside_of n) within (rules.assign) (ki.assign (inside_of n) within) (l ∷ [])) (λ p. k_shut MARK_RIGHT_PAREN refl refl e (λ r. k_pure (call_of p r) refl)))))
        (k_or (k_flat (mark MARK_DOT ∷ []) refl e (λ m. k_flat any_name refl e (λ x. k_pure (post.Dot x (m ∷ [])) refl)))
        (k_or (k_flat (mark MARK_ARROW ∷ []) refl e (λ m. k_flat any_name refl e (λ x. k_pure (post.Arrow x (m ∷ [])) refl)))
        (k_flat a_step refl e (λ x. k_pure (post.Step x) refl)))))

    k_suffixes : Keeps (lang.all_suffixes d level rules) n (λ a. n)
    unfolding lang.all_suffixes lang.more_suffixes
    k_suffixes = k_many d (λ ps. k_then k_suffix (λ p. k_pure (ps ++ p ∷ []) refl)) []

    k_last : (p : Items) → Keeps (lang.last_item d level rules p) (inside_of n) (by_turn (inside_of n) n)
    unfolding lang.last_item
    k_last p = k_shut MARK_RIGHT_BRACE refl refl e (λ r. k_pure (Done (with_mark p r)) refl)

    k_items : (p : Items) → Keeps (lang.all_items d level rules p) (inside_of n) (λ a. n)
    unfolding lang.all_items lang.item lang.comma_item lang.next_item
    k_items p = k_repeat d (λ q. k_or (k_flat (mark MARK_COMMA ∷ []) refl within (λ m. k_or (k_last (with_mark q m)) (k_then (ki.item (inside_of n) within) (λ a. k_pure (Again (with_item q m a)) refl)))) (k_last q)) p

    k_with_compound : (ps : List Prefix) (t : TypeName) (ms : List ℕ) → Keeps (lang.with_compound d level rules ps t ms) n (by_turn n n)
    unfolding lang.with_compound lang.compound
    k_with_compound ps t ms = k_then {r = λ a. n} (k_open MARK_LEFT_BRACE refl e (λ b. k_then (ki.item (inside_of n) within) (λ a. k_then (k_items (one_item a (ms ++ b ∷ []))) (λ p. k_pure (compound_of t p) refl))))
        (λ f. k_pure (Done (Operand ps f)) refl)

    k_typed_at : (c : Chain) (t : TypeName) (ms : List ℕ) (m : Mode) → Keeps (lang.typed_at d level rules c t ms m) n (by_turn n n)
    k_typed_at c t ms Cast = k_or (k_with_compound c.prefixes t ms) (k_pure (Again (with_cast c.prefixes t ms)) refl)
    k_typed_at c t ms Literal = k_with_compound c.prefixes t ms
    k_typed_at c t ms (Size key) = k_or (k_with_compound (flushed (Size key) c.prefixes) t ms) (k_pure (Done (Sized c.prefixes (form.SizeType key t ms))) refl)

    k_flat_links : (c : Chain) → Keeps (lang.operator d level rules c) n (by_turn n n)
    unfolding lang.operator
    k_flat_links c = k_flat a_unary refl e (λ x. k_pure (Again (with_op c x Cast)) refl)

    k_stepped : (c : Chain) → Keeps (lang.stepped d level rules c) n (by_turn n n)
    unfolding lang.stepped
    k_stepped c = k_flat a_step refl e (λ x. k_pure (Again (with_op c x Literal)) refl)

    k_sized : (c : Chain) → Keeps (lang.sized d level rules c) n (by_turn n n)
    unfolding lang.sized
    k_sized c = k_flat (key KEY_SIZEOF ∷ []) refl e (λ x. k_pure (Again (with_size c x)) refl)

    k_aligned : (c : Chain) → Keeps (lang.aligned d level rules c) n (by_turn n n)
    unfolding lang.aligned
    k_aligned c = k_flat (key KEY_ALIGNOF ∷ []) refl e (λ x. k_open MARK_LEFT_PAREN refl e (λ l. k_then (ki.type_name (inside_of n) within) (λ t. k_shut MARK_RIGHT_PAREN refl refl e
        (λ r. k_pure (Done (Sized (flushed c.mode c.prefixes) (form.SizeType x t (l ∷ r ∷ [])))) refl))))

    k_paren : (c : Chain) → Keeps (lang.paren d level rules c) n (by_turn n n)
    unfolding lang.paren lang.typed lang.grouped
    k_paren c = k_open MARK_LEFT_PAREN refl e (λ l. k_or
        (k_then (ki.type_name (inside_of n) within) (λ t. k_shut MARK_RIGHT_PAREN refl refl e (λ r. k_typed_at c t (l ∷ r ∷ []) c.mode)))
        (k_then k_inside (λ x. k_shut MARK_RIGHT_PAREN refl refl e (λ r. k_pure (Done (Operand (flushed c.mode c.prefixes) (form.Group x (l ∷ r ∷ [])))) refl))))

    k_name : (c : Chain) → Keeps (lang.name d level rules c) n (by_turn n n)
    unfolding lang.name
    k_name c = k_flat a_name refl e (λ x. k_pure (Done (Operand (flushed c.mode c.prefixes) (form.Name x))) refl)

    k_constant : (c : Chain) → Keeps (lang.constant d level rules c) n (by_turn n n)
    unfolding lang.constant
    k_constant c = k_flat a_constant refl e (λ x. k_pure (Done (Operand (flushed c.mode c.prefixes) (form.Literal (x ∷ [])))) refl)

    k_text : (c : Chain) → Keeps (lang.text d level rules c) n (by_turn n n)
    unfolding lang.text
    k_text c = k_flat (TEXT ∷ []) refl e (λ x. k_then (k_texts d level n e (x ∷ [])) (λ ns. k_pure (Done (Operand (flushed c.mode c.prefixes) (form.Literal ns))) refl))

    k_link : (c : Chain) → Keeps (lang.link d level rules c) n (by_turn n n)
    unfolding lang.link
    k_link c = k_or (k_flat_links c) (k_or (k_stepped c) (k_or (k_sized c) (k_or (k_aligned c) (k_or (k_paren c) (k_or (k_name c) (k_or (k_constant c) (k_text c)))))))

    k_finished : (x : Found) → Keeps (lang.finished d level rules x) n (λ a. n)
    k_finished (Operand ps f) = k_then k_suffixes (λ q. k_pure (prefixed_of ps f q) refl)
    k_finished (Sized ps f) = k_pure (prefixed_of ps f []) refl

    k_prefixed : Keeps (lang.prefixed d level rules) n (λ a. n)
    unfolding lang.prefixed lang.links
    k_prefixed = k_then (k_repeat d k_link chain_start) k_finished

    k_binary : (p : Prefixed) → Keeps (lang.binary d level rules p) n (λ a. n)
    unfolding lang.binary lang.all_operands lang.more_operands
    k_binary p = k_then (k_many d (λ xs. k_flat a_binary refl e (λ x. k_then k_prefixed (λ q. k_pure (xs ++ (x, q) ∷ []) refl))) []) (λ xs. k_pure (binary_of p xs) refl)

    k_arms : (s : Arms) → Keeps (lang.all_arms d level rules s) n (λ a. n)
    unfolding lang.all_arms lang.more_arms
    k_arms s = k_many d (λ a. k_ask e (λ q. k_then (k_expr d (suc level) (asked n) asking (rules.assign) (ki.assign (asked n) asking)) (λ x. k_colon e
        (λ c. k_then k_prefixed (λ p. k_then (k_binary p) (λ b. k_pure (with_arm a x (q ∷ c ∷ []) b) refl)))))) s

    k_target_at : (ts : List (Prefixed × ℕ)) (p : Prefixed) (b : Bool) → Keeps (lang.target_at d level rules ts p b) n (by_turn n n)
    unfolding lang.set_target
    k_target_at ts p true = k_or (k_flat an_assignment refl e (λ x. k_pure (Again (ts ++ (p, x) ∷ [])) refl)) (k_pure (Done (begun_of ts p)) refl)
    k_target_at ts p false = k_pure (Done (begun_of ts p)) refl

    k_rest : (b : Begun) → Keeps (lang.rest_of d level rules b) n (λ a. n)
    unfolding lang.rest_of
    k_rest b = k_then (k_binary b.first) (λ x. k_then (k_arms (arms_start x)) (λ a. k_pure (assign_of b.targets a) refl))

    pub k_whole : Keeps (lang.whole d level rules) n (λ a. n)
    unfolding lang.whole lang.targets lang.target
    k_whole = k_then (k_repeat d (λ ts. k_then k_prefixed (λ p. k_target_at ts p (is_target p))) []) k_rest
