-- What the words of a rule say: trees whose symbols fit the tokens, and whose names lead to the
-- scopes behind them. One lemma for each way to put rules together.

use Rattle.std.proofs.Common.{◌≡◌, ◌⊎◌, inl, inr, ℕ, zero, suc, Bool, true, false, List, [], ◌∷◌, ◌++◌, Option, Some, refl, sym, ap, ◌∙◌, subst, append_assoc, append-nil}
use Rattle.c_lexer.specs.declared.token.Kind.{Kind}
use Rattle.c_scopes.specs.Scopes.{OpenScopes}
use Rattle.reading.specs.Terminals.{has}
use Rattle.reading.specs.declared.turn.Turn.{Turn}
use Rattle.reading.specs.declared.turn.Turn.TheVariants.{Again, Done}
use Rattle.reading.specs.Languages.{Leveled, tokens_of, steps}
use Rattle.reading.specs.Rules.{◌>>=◌, ◌or◌, pure, one, many, repeat, after}
use Rattle.reading.proofs.Cutting.{tokens_append}
use Rattle.c_reading.specs.Kept.{KeptToken}
use Rattle.c_reading.specs.Cursors.{terminal_in}
use Rattle.c_reading.specs.Terminals.{terminal_where}
use Rattle.c_syntax.specs.Scoping.{Part, is_typedef_name, terminal_of}
use Rattle.c_syntax.specs.Steps.{one_among}
use Rattle.expression_trees.specs.Saying.{Said, IsKnown, AreKnown, AreSaid}

-- What is said before the rest.
abbrev pub Open : Type 0
Open = Said → Said

module _ (kind_of : ℕ → Option Kind) (bytes_of : ℕ → List ℕ) where
  pub known_cut : (v w : List (Leveled KeptToken)) → AreKnown kind_of bytes_of (v ++ w) → AreKnown kind_of bytes_of v × AreKnown kind_of bytes_of w
  known_cut [] w k = (tt, k)
  known_cut (s ∷ v) w k = let r = known_cut v w k.1 in ((k.0, r.0), r.1)

  -- What is said before the rest are these tokens, from scopes to scopes.
  abbrev pub Before : Open → List KeptToken → OpenScopes → OpenScopes → Type 0
  Before f u start scopes = (k : Said) (v : List KeptToken) (end : OpenScopes) → AreSaid kind_of bytes_of k v scopes end →
      AreSaid kind_of bytes_of (f k) (u ++ v) start end

  -- Behind tokens that were said, a word of the rule has a value for which this is said of all
  -- tokens so far.
  pub record Adds {A : Type 0} (X : Part A) (before : Open) (good : A → Open → Type 0) : Type 0 where
    pub adds : (u : List KeptToken) (start scopes : OpenScopes) (w : List (Leveled KeptToken)) (end : A × OpenScopes) → AreKnown kind_of bytes_of w →
        Before before u start scopes → X scopes w end → (f : Open) × Before f (u ++ tokens_of w) start end.1 × good end.0 f

  pub adds_pure : {A : Type 0} {before : Open} {good : A → Open → Type 0} (a : A) → good a before → Adds (pure a) before good
  adds_pure {before = before} {good = good} a g = record {
    adds = λ u start scopes w end kn pre x. (
      before,
      subst (λ (z : List (Leveled KeptToken)). Before before (u ++ tokens_of z) start end.1) (sym x.none)
          (subst (λ (z : List KeptToken). Before before z start end.1) (sym (append-nil u)) (subst (Before before u start) (sym (ap (λ (e : _). e.1) x.same)) pre)),
      subst (λ (b : _). good b before) (sym (ap (λ (e : _). e.0) x.same)) g,
    );
  }

  pub adds_then : {A B : Type 0} {X : Part A} {h : A → Part B} {before : Open} {fine : A → Open → Type 0} {good : B → Open → Type 0} → Adds X before fine →
      ((a : A) (f : Open) → fine a f → Adds (h a) f good) → Adds (X >>= h) before good
  adds_then p q = record {
    adds = λ u start scopes w end kn pre x.
        let k = known_cut x.front x.back (subst (AreKnown kind_of bytes_of) x.split kn) in
        let l = p.adds u start scopes x.front x.value k.0 pre x.begin in
        let r = (q x.value.0 l.0 l.2).adds (u ++ tokens_of x.front) start x.value.1 x.back end k.1 l.1 x.rest in
        let same : (u ++ tokens_of x.front) ++ tokens_of x.back ≡ u ++ tokens_of w =
        append_assoc u (tokens_of x.front) (tokens_of x.back) ∙ ap (λ (z : List KeptToken). u ++ z) (sym (ap tokens_of x.split ∙ tokens_append x.front x.back)) in
        (r.0, subst (λ (z : List KeptToken). Before r.0 z start end.1) same r.1, r.2);
  }

  one_or_other : {A : Type 0} {X Y : Part A} {before : Open} {good : A → Open → Type 0} → Adds X before good → Adds Y before good →
      (u : List KeptToken) (start scopes : OpenScopes) (w : List (Leveled KeptToken)) (end : A × OpenScopes) → AreKnown kind_of bytes_of w →
      Before before u start scopes → X scopes w end ⊎ Y scopes w end → (f : Open) × Before f (u ++ tokens_of w) start end.1 × good end.0 f
  one_or_other p q u start scopes w end kn pre (inl x) = p.adds u start scopes w end kn pre x
  one_or_other p q u start scopes w end kn pre (inr y) = q.adds u start scopes w end kn pre y

  pub adds_or : {A : Type 0} {X Y : Part A} {before : Open} {good : A → Open → Type 0} → Adds X before good → Adds Y before good → Adds (X or Y) before good
  adds_or p q = record { adds = one_or_other p q }

  -- ---- Tokens

  -- A token of the set is said so.
  pub record Says (set : List ℕ) (put : ℕ → Open) : Type 0 where
    pub says : (scopes end : OpenScopes) (t : KeptToken) (k : Said) (v : List KeptToken) → has set (terminal_of scopes t) ≡ true → IsKnown kind_of bytes_of t →
        AreSaid kind_of bytes_of k v scopes end → AreSaid kind_of bytes_of (put t.number k) (t ∷ v) scopes end

  -- The token is one of the set, in some scopes.
  pub record IsOf (set : List ℕ) (number : ℕ) : Type 0 where
    pub kind : Kind
    pub spelling : List ℕ
    pub scopes : OpenScopes
    pub is : kind_of number ≡ Some kind
    pub fits : has set (terminal_where (is_typedef_name scopes) kind spelling) ≡ true

  pub adds_token : {B : Type 0} {before : Open} {h : ℕ → Part B} {good : B → Open → Type 0} {set : List ℕ} {put : ℕ → Open} {level : ℕ} → Says set put →
      ((n : ℕ) → IsOf set n → Adds (h n) (λ k. before (put n k)) good) → Adds (one_among set level >>= h) before good
  unfolding terminal_in
  adds_token {before = before} {h = h} {set = set} {put = put} {level = level} s q = record {
    adds = λ u start scopes w end kn pre x.
        let y = x.begin in
        let k = known_cut x.front x.back (subst (AreKnown kind_of bytes_of) x.split kn) in
        let known : AreKnown kind_of bytes_of ((y.token, level) ∷ []) = subst (AreKnown kind_of bytes_of) y.is k.0 in
        let n = y.token.number in
        let f : Open = λ k. before (put n k) in
        let here : Before f (u ++ tokens_of x.front) start scopes = λ k v end g.
        subst (λ (z : List KeptToken). AreSaid kind_of bytes_of (before (put n k)) (z ++ v) start end) (ap (λ (z : List (Leveled KeptToken)). u ++ tokens_of z) (sym y.is))
        (subst (λ (z : List KeptToken). AreSaid kind_of bytes_of (before (put n k)) z start end) (sym (append_assoc u (y.token ∷ []) v))
        (pre (put n k) (y.token ∷ v) end (s.says scopes end y.token k v y.fits known.0 g))) in
        let is : IsOf set n = record { kind = y.token.lexeme.kind; spelling = y.token.lexeme.spelling; scopes = scopes; is = known.0.0; fits = y.fits } in
        let rest : h n scopes x.back end = subst (λ (e : ℕ × OpenScopes). h e.0 e.1 x.back end) y.value x.rest in
        let r = (q n is).adds (u ++ tokens_of x.front) start scopes x.back end k.1 here rest in
        let same : (u ++ tokens_of x.front) ++ tokens_of x.back ≡ u ++ tokens_of w =
        append_assoc u (tokens_of x.front) (tokens_of x.back) ∙ ap (λ (z : List KeptToken). u ++ z) (sym (ap tokens_of x.split ∙ tokens_append x.front x.back)) in
        (r.0, subst (λ (z : List KeptToken). Before r.0 z start end.1) same r.1, r.2);
  }

  -- ---- A part that is said by itself, and then the rest

  pub adds_part : {A B : Type 0} {X : Part A} {h : A → Part B} {before : Open} {fine : A → Open → Type 0} {good : B → Open → Type 0} → Adds X (λ k. k) fine →
      ((a : A) (f : Open) → fine a f → Adds (h a) (λ k. before (f k)) good) → Adds (X >>= h) before good
  adds_part {before = before} p q = record {
    adds = λ u start scopes w end kn pre x.
        let k = known_cut x.front x.back (subst (AreKnown kind_of bytes_of) x.split kn) in
        let l = p.adds [] scopes scopes x.front x.value k.0 (λ k v end f. f) x.begin in
        let here : Before (λ k. before (l.0 k)) (u ++ tokens_of x.front) start x.value.1 = λ k v end f.
        subst (λ (z : List KeptToken). AreSaid kind_of bytes_of (before (l.0 k)) z start end) (sym (append_assoc u (tokens_of x.front) v)) (pre (l.0 k) (tokens_of x.front ++ v) end (l.1 k v end f)) in
        let r = (q x.value.0 l.0 l.2).adds (u ++ tokens_of x.front) start x.value.1 x.back end k.1 here x.rest in
        let same : (u ++ tokens_of x.front) ++ tokens_of x.back ≡ u ++ tokens_of w =
        append_assoc u (tokens_of x.front) (tokens_of x.back) ∙ ap (λ (z : List KeptToken). u ++ z) (sym (ap tokens_of x.split ∙ tokens_append x.front x.back)) in
        (r.0, subst (λ (z : List KeptToken). Before r.0 z start end.1) same r.1, r.2);
  }

  -- What is said wants less, or says the same in other words.
  pub adds_from : {A : Type 0} {X : Part A} {before before' : Open} {good : A → Open → Type 0} →
      ((k : Said) (ts : List KeptToken) (scopes end : OpenScopes) → AreSaid kind_of bytes_of (before k) ts scopes end → AreSaid kind_of bytes_of (before' k) ts scopes end) →
      Adds X before' good → Adds X before good
  adds_from up p = record { adds = λ u start scopes w end kn pre x. p.adds u start scopes w end kn (λ k v e f. up k (u ++ v) start e (pre k v e f)) x }

  pub adds_same : {A : Type 0} {X : Part A} {before before' : Open} {good : A → Open → Type 0} → ((k : Said) → before k ≡ before' k) →
      Adds X before' good → Adds X before good
  adds_same same p = adds_from (λ k ts scopes end f. subst (λ (z : Said). AreSaid kind_of bytes_of z ts scopes end) (same k) f) p

  pub adds_to : {A : Type 0} {X : Part A} {before : Open} {fine good : A → Open → Type 0} → ((a : A) (f : Open) → fine a f → good a f) →
      Adds X before fine → Adds X before good
  adds_to up p = record { adds = λ u start scopes w end kn pre x. let r = p.adds u start scopes w end kn pre x in (r.0, r.1, up end.0 r.0 r.2) }

  -- What is said of the value may want less.
  pub adds_looser : {A : Type 0} {X : Part A} {before : Open} {fine good : A → Open → Type 0} →
      ((a : A) (f : Open) → fine a f → (g : Open) × ((k : Said) (ts : List KeptToken) (scopes end : OpenScopes) → AreSaid kind_of bytes_of (f k) ts scopes end →
      AreSaid kind_of bytes_of (g k) ts scopes end) × good a g) → Adds X before fine → Adds X before good
  adds_looser up p = record {
    adds = λ u start scopes w end kn pre x.
        let r = p.adds u start scopes w end kn pre x in
        let g = up end.0 r.0 r.2 in
        (g.0, (λ k v e f. g.1 k ((u ++ tokens_of w) ++ v) start e (r.1 k v e f)), g.2);
  }

  -- ---- Loops

  adds_steps : {S : Type 0} {before : Open} (n : ℕ) {step : S → Part S} {good : S → Open → Type 0} →
      ((s : S) (f : Open) → good s f → Adds (step s) f good) → (s : S) → good s before → Adds (λ scope. steps n (λ end. step end.0 end.1) (s, scope)) before good
  unfolding steps
  adds_steps zero p s g = adds_pure s g
  adds_steps (suc n) p s g = adds_or (adds_then (p s _ g) (λ r f h. adds_steps n p r h)) (adds_pure s g)

  pub adds_many : {S : Type 0} {before : Open} (n : ℕ) {step : S → Part S} {good : S → Open → Type 0} →
      ((s : S) (f : Open) → good s f → Adds (step s) f good) → (s : S) → good s before → Adds (many n step s) before good
  adds_many n p s g = adds_steps n p s g

  abbrev pub by_turn : {S A : Type 0} → (S → Open → Type 0) → (A → Open → Type 0) → Turn S A → Open → Type 0
  by_turn fine good (Again s) = fine s
  by_turn fine good (Done a) = good a

  pub adds_after : {S A : Type 0} {go : S → Part A} {fine : S → Open → Type 0} {good : A → Open → Type 0} →
      ((s : S) (f : Open) → fine s f → Adds (go s) f good) → (t : Turn S A) (f : Open) → by_turn fine good t f → Adds (after go t) f good
  adds_after p (Again s) f g = p s f g
  adds_after p (Done a) f g = adds_pure a g

  pub adds_repeat : {S A : Type 0} {before : Open} (n : ℕ) {turn : S → Part (Turn S A)} {fine : S → Open → Type 0} {good : A → Open → Type 0} →
      ((s : S) (f : Open) → fine s f → Adds (turn s) f (by_turn fine good)) → (s : S) → fine s before → Adds (repeat n turn s) before good
  unfolding repeat
  adds_repeat zero p s g = record { adds = λ u start scopes w end kn pre x. absurd x }
  adds_repeat (suc n) p s g = adds_then (p s _ g) (adds_after (λ r f h. adds_repeat n p r h))

  pub adds_none : {A : Type 0} {before : Open} {good : A → Open → Type 0} {X : Part A} → ((scopes : OpenScopes) (w : List (Leveled KeptToken)) (end : A × OpenScopes) → X scopes w end → ⊥) → Adds X before good
  adds_none h = record { adds = λ u start scopes w end kn pre x. absurd (h scopes w end x) }
