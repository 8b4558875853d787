-- What the words of a rule say where they stand in a text: trees whose symbols fit the tokens, and
-- whose names lead to the scopes behind them. One lemma for each way to put rules together.

use Rattle.std.proofs.Common.{◌≡◌, ◌⊎◌, inl, inr, ℕ, zero, suc, Bool, true, false, List, [], ◌∷◌, ◌++◌, Option, Some, None, refl, sym, ap, ◌∙◌, subst, append_assoc, append-nil}
use Rattle.c_lexer.specs.declared.token.Kind.{Kind}
use Rattle.c_lexer.specs.declared.token.Kind.TheVariants as k
use Rattle.c_lexer.specs.declared.mark.TheConstants.{MARK_LEFT_PAREN}
use Rattle.c_scopes.specs.Scopes.{OpenScopes}
use Rattle.c_scopes.specs.Scopes.{left as left_scopes}
use Rattle.c_scopes.specs.Scopes.{entered}
use Rattle.c_scopes.specs.Events.{Event, Opens, Closes, Declares}
use Rattle.reading.specs.Terminals.{has}
use Rattle.reading.specs.declared.turn.Turn.{Turn}
use Rattle.reading.specs.declared.turn.Turn.TheVariants.{Again, Done}
use Rattle.reading.specs.Languages.{Leveled, tokens_of, steps}
use Rattle.reading.specs.Rules.{◌>>=◌, ◌or◌, pure, changes, one, many, repeat, after}
use Rattle.reading.proofs.Cutting.{tokens_append}
use Rattle.reading.proofs.Sets.{never}
use Rattle.c_reading.specs.Kept.{KeptToken}
use Rattle.c_reading.specs.Cursors.{terminal_in}
use Rattle.c_reading.specs.Terminals.{terminal_where, mark}
use Rattle.c_syntax.specs.Scoping.{Part, is_typedef_name, terminal_of}
use Rattle.c_syntax.specs.Steps.{one_among}
use Rattle.c_specifiers.specs.Words.{NamedToken}
use Rattle.c_specifiers.specs.DeclarationSteps.{one_word, entering, leaving, declaring, with_name}
use Rattle.expression_trees.specs.Saying.{Said, ◌and◌, AreKnown, AreSaid}
use Rattle.expression_trees.proofs.Front.{Open, Before, Says, IsOf, known_cut}
use Rattle.declaration_trees.specs.Numbering.{Runs, IsNoParen}

runs_cut : (at stop : ℕ) (v w : List (Leveled KeptToken)) → Runs at (v ++ w) stop → (middle : ℕ) × Runs at v middle × Runs middle w stop
runs_cut at stop [] w r = (at, refl, r)
runs_cut at stop (s ∷ v) w r = let c = runs_cut (suc at) stop v w r.1 in (c.0, (r.0, c.1), c.2)

-- What changes the scopes, and then the rest.
abbrev pub meets : Event → Open
meets event k = record { symbols = k.symbols; events = event ∷ k.events }

abbrev pub names : Option NamedToken → Bool → Open
names None typedef k = k
names (Some word) typedef k = meets (Declares word.bytes typedef) k

-- Behind tokens that were said, a word of the rule that begins with the token has a value for which
-- this is said of all tokens so far. It may depend on the token behind the word.
pub record Adds {A : Type 0} (kind_of : ℕ → Option Kind) (bytes_of : ℕ → List ℕ) (X : Part A) (at : ℕ) (before : Open) (good : A → ℕ → Open → Type 0) : Type 0 where
  pub adds : (u : List KeptToken) (start scopes : OpenScopes) (w : List (Leveled KeptToken)) (stop : ℕ) (end : A × OpenScopes) → AreKnown kind_of bytes_of w → Runs at w stop →
      Before kind_of bytes_of before u start scopes → X scopes w end → (f : Open) × Before kind_of bytes_of f (u ++ tokens_of w) start end.1 × good end.0 stop f

-- The name that a token is.
abbrev pub word_at : (ℕ → List ℕ) → ℕ → NamedToken
word_at bytes_of n = record { token = n; bytes = bytes_of n }

abbrev pub by_turn : {S A : Type 0} → (S → ℕ → Open → Type 0) → (A → ℕ → Open → Type 0) → Turn S A → ℕ → Open → Type 0
by_turn fine good (Again s) = fine s
by_turn fine good (Done a) = good a

-- The value is right before the token, and this is what it says.
abbrev pub Made : {A : Type 0} → (A → Said) → (A → ℕ → Type 0) → A → ℕ → Open → Type 0
Made said right a stop f = right a stop × ((k : Said) → said a and k ≡ f k)

names_met : (kind_of : ℕ → Option Kind) (bytes_of : ℕ → List ℕ) (name : Option NamedToken) (typedef : Bool) (k : Said) (ts : List KeptToken) (scopes end : OpenScopes) → AreSaid kind_of bytes_of k ts (with_name name typedef scopes) end →
    AreSaid kind_of bytes_of (names name typedef k) ts scopes end
names_met kind_of bytes_of None typedef k ts scopes end f = f
names_met kind_of bytes_of (Some word) typedef k ts scopes end f = (f.0, (tt, f.1))

module _ {kind_of : ℕ → Option Kind} {bytes_of : ℕ → List ℕ} where
  pub adds_changing : {A : Type 0} {at : ℕ} {before : Open} {good : A → ℕ → Open → Type 0} (g : OpenScopes → OpenScopes) (put : Open)
      (met : (k : Said) (ts : List KeptToken) (scopes end : OpenScopes) → AreSaid kind_of bytes_of k ts (g scopes) end → AreSaid kind_of bytes_of (put k) ts scopes end) (a : A) →
      good a at (λ k. before (put k)) → Adds kind_of bytes_of (changes g a) at before good
  adds_changing {at = at} {before = before} {good = good} g put met a h = record {
    adds = λ u start scopes w stop end kn run pre x.
        let f : Open = λ k. before (put k) in
        let here : stop ≡ at = subst (λ (z : List (Leveled KeptToken)). Runs at z stop) x.none run in
        let whole : Before kind_of bytes_of f u start (g scopes) = λ k v e q. pre (put k) v e (met k v scopes e q) in (
          f,
          subst (λ (z : List (Leveled KeptToken)). Before kind_of bytes_of f (u ++ tokens_of z) start end.1) (sym x.none)
              (subst (λ (z : List KeptToken). Before kind_of bytes_of f z start end.1) (sym (append-nil u)) (subst (Before kind_of bytes_of f u start) (sym (ap (λ (e : _). e.1) x.same)) whole)),
          subst (λ (n : ℕ). good end.0 n f) (sym here) (subst (λ (b : _). good b at f) (sym (ap (λ (e : _). e.0) x.same)) h),
        );
  }

  pub adds_pure : {A : Type 0} {at : ℕ} {before : Open} {good : A → ℕ → Open → Type 0} (a : A) → good a at before → Adds kind_of bytes_of (pure a) at before good
  adds_pure a h = adds_changing (λ s. s) (λ k. k) (λ k ts scopes end q. q) a h

  pub adds_then : {A B : Type 0} {X : Part A} {h : A → Part B} {at : ℕ} {before : Open} {fine : A → ℕ → Open → Type 0} {good : B → ℕ → Open → Type 0} → Adds kind_of bytes_of X at before fine →
      ((a : A) (n : ℕ) (f : Open) → fine a n f → Adds kind_of bytes_of (h a) n f good) → Adds kind_of bytes_of (X >>= h) at before good
  adds_then {at = at} p q = record {
    adds = λ u start scopes w stop end kn run pre x.
        let k = known_cut kind_of bytes_of x.front x.back (subst (AreKnown kind_of bytes_of) x.split kn) in
        let c = runs_cut at stop x.front x.back (subst (λ (z : List (Leveled KeptToken)). Runs at z stop) x.split run) in
        let l = p.adds u start scopes x.front c.0 x.value k.0 c.1 pre x.begin in
        let r = (q x.value.0 c.0 l.0 l.2).adds (u ++ tokens_of x.front) start x.value.1 x.back stop end k.1 c.2 l.1 x.rest in
        let same : (u ++ tokens_of x.front) ++ tokens_of x.back ≡ u ++ tokens_of w =
        append_assoc u (tokens_of x.front) (tokens_of x.back) ∙ ap (λ (z : List KeptToken). u ++ z) (sym (ap tokens_of x.split ∙ tokens_append x.front x.back)) in
        (r.0, subst (λ (z : List KeptToken). Before kind_of bytes_of r.0 z start end.1) same r.1, r.2);
  }

  one_or_other : {A : Type 0} {X Y : Part A} {at : ℕ} {before : Open} {good : A → ℕ → Open → Type 0} → Adds kind_of bytes_of X at before good → Adds kind_of bytes_of Y at before good →
      (u : List KeptToken) (start scopes : OpenScopes) (w : List (Leveled KeptToken)) (stop : ℕ) (end : A × OpenScopes) → AreKnown kind_of bytes_of w → Runs at w stop →
      Before kind_of bytes_of before u start scopes → X scopes w end ⊎ Y scopes w end → (f : Open) × Before kind_of bytes_of f (u ++ tokens_of w) start end.1 × good end.0 stop f
  one_or_other p q u start scopes w stop end kn run pre (inl x) = p.adds u start scopes w stop end kn run pre x
  one_or_other p q u start scopes w stop end kn run pre (inr y) = q.adds u start scopes w stop end kn run pre y

  pub adds_or : {A : Type 0} {X Y : Part A} {at : ℕ} {before : Open} {good : A → ℕ → Open → Type 0} → Adds kind_of bytes_of X at before good → Adds kind_of bytes_of Y at before good →
      Adds kind_of bytes_of (X or Y) at before good
  adds_or p q = record { adds = one_or_other p q }

  -- What is said wants less, or says the same in other words.
  pub adds_from : {A : Type 0} {X : Part A} {at : ℕ} {before before' : Open} {good : A → ℕ → Open → Type 0} →
      ((k : Said) (ts : List KeptToken) (scopes end : OpenScopes) → AreSaid kind_of bytes_of (before k) ts scopes end → AreSaid kind_of bytes_of (before' k) ts scopes end) →
      Adds kind_of bytes_of X at before' good → Adds kind_of bytes_of X at before good
  adds_from up p = record { adds = λ u start scopes w stop end kn run pre x. p.adds u start scopes w stop end kn run (λ k v e f. up k (u ++ v) start e (pre k v e f)) x }

  pub adds_same : {A : Type 0} {X : Part A} {at : ℕ} {before before' : Open} {good : A → ℕ → Open → Type 0} → ((k : Said) → before k ≡ before' k) →
      Adds kind_of bytes_of X at before' good → Adds kind_of bytes_of X at before good
  adds_same same p = adds_from (λ k ts scopes end f. subst (λ (z : Said). AreSaid kind_of bytes_of z ts scopes end) (same k) f) p

  pub adds_to : {A : Type 0} {X : Part A} {at : ℕ} {before : Open} {fine good : A → ℕ → Open → Type 0} → ((a : A) (n : ℕ) (f : Open) → fine a n f → good a n f) →
      Adds kind_of bytes_of X at before fine → Adds kind_of bytes_of X at before good
  adds_to up p = record { adds = λ u start scopes w stop end kn run pre x. let r = p.adds u start scopes w stop end kn run pre x in (r.0, r.1, up end.0 stop r.0 r.2) }

  -- A part that is said by itself, and then the rest.
  pub adds_part : {A B : Type 0} {X : Part A} {h : A → Part B} {at : ℕ} {before : Open} {fine : A → ℕ → Open → Type 0} {good : B → ℕ → Open → Type 0} → Adds kind_of bytes_of X at (λ k. k) fine →
      ((a : A) (n : ℕ) (f : Open) → fine a n f → Adds kind_of bytes_of (h a) n (λ k. before (f k)) good) → Adds kind_of bytes_of (X >>= h) at before good
  adds_part {at = at} {before = before} p q = record {
    adds = λ u start scopes w stop end kn run pre x.
        let k = known_cut kind_of bytes_of x.front x.back (subst (AreKnown kind_of bytes_of) x.split kn) in
        let c = runs_cut at stop x.front x.back (subst (λ (z : List (Leveled KeptToken)). Runs at z stop) x.split run) in
        let l = p.adds [] scopes scopes x.front c.0 x.value k.0 c.1 (λ k v end f. f) x.begin in
        let here : Before kind_of bytes_of (λ k. before (l.0 k)) (u ++ tokens_of x.front) start x.value.1 = λ k v end f.
        subst (λ (z : List KeptToken). AreSaid kind_of bytes_of (before (l.0 k)) z start end) (sym (append_assoc u (tokens_of x.front) v)) (pre (l.0 k) (tokens_of x.front ++ v) end (l.1 k v end f)) in
        let r = (q x.value.0 c.0 l.0 l.2).adds (u ++ tokens_of x.front) start x.value.1 x.back stop end k.1 c.2 here x.rest in
        let same : (u ++ tokens_of x.front) ++ tokens_of x.back ≡ u ++ tokens_of w =
        append_assoc u (tokens_of x.front) (tokens_of x.back) ∙ ap (λ (z : List KeptToken). u ++ z) (sym (ap tokens_of x.split ∙ tokens_append x.front x.back)) in
        (r.0, subst (λ (z : List KeptToken). Before kind_of bytes_of r.0 z start end.1) same r.1, r.2);
  }

  -- ---- Tokens

  -- One token of the set, with what is seen of it.
  pub adds_view : {A B : Type 0} {before : Open} {view : KeptToken → A} (seen : ℕ → A) {h : A → Part B} {good : B → ℕ → Open → Type 0} {set : List ℕ} {put : ℕ → Open} {level at : ℕ} → Says kind_of bytes_of set put →
      ((t : KeptToken) → bytes_of t.number ≡ t.lexeme.spelling → view t ≡ seen t.number) →
      ((a : A) (n : ℕ) → a ≡ seen n → n ≡ at → IsOf kind_of bytes_of set n → Adds kind_of bytes_of (h a) (suc n) (λ k. before (put n k)) good) → Adds kind_of bytes_of (one terminal_of set view level >>= h) at before good
  unfolding terminal_in
  adds_view {A} {B} {before} {view} seen {h} {good} {set} {put} {level} {at} s look q = record {
    adds = λ u start scopes w stop end kn run pre x.
        let y = x.begin in
        let k = known_cut kind_of bytes_of x.front x.back (subst (AreKnown kind_of bytes_of) x.split kn) in
        let c = runs_cut at stop x.front x.back (subst (λ (z : List (Leveled KeptToken)). Runs at z stop) x.split run) in
        let known : AreKnown kind_of bytes_of ((y.token, level) ∷ []) = subst (AreKnown kind_of bytes_of) y.is k.0 in
        let runs : Runs at ((y.token, level) ∷ []) c.0 = subst (λ (z : List (Leveled KeptToken)). Runs at z c.0) y.is c.1 in
        let n = y.token.number in
        let f : Open = λ k. before (put n k) in
        let here : Before kind_of bytes_of f (u ++ tokens_of x.front) start scopes = λ k v end g.
        subst (λ (z : List KeptToken). AreSaid kind_of bytes_of (before (put n k)) (z ++ v) start end) (ap (λ (z : List (Leveled KeptToken)). u ++ tokens_of z) (sym y.is))
        (subst (λ (z : List KeptToken). AreSaid kind_of bytes_of (before (put n k)) z start end) (sym (append_assoc u (y.token ∷ []) v))
        (pre (put n k) (y.token ∷ v) end (s.says scopes end y.token k v y.fits known.0 g))) in
        let is : IsOf kind_of bytes_of set n = record { kind = y.token.lexeme.kind; spelling = y.token.lexeme.spelling; scopes = scopes; is = known.0.0; fits = y.fits } in
        let rest : h (view y.token) scopes x.back end = subst (λ (e : A × OpenScopes). h e.0 e.1 x.back end) y.value x.rest in
        let from : Runs (suc n) x.back stop = subst (λ (m : ℕ). Runs m x.back stop) (runs.1 ∙ ap (λ (m : ℕ). suc m) (sym runs.0)) c.2 in
        let r = (q (view y.token) n (look y.token known.0.1) runs.0 is).adds (u ++ tokens_of x.front) start scopes x.back stop end k.1 from here rest in
        let same : (u ++ tokens_of x.front) ++ tokens_of x.back ≡ u ++ tokens_of w =
        append_assoc u (tokens_of x.front) (tokens_of x.back) ∙ ap (λ (z : List KeptToken). u ++ z) (sym (ap tokens_of x.split ∙ tokens_append x.front x.back)) in
        (r.0, subst (λ (z : List KeptToken). Before kind_of bytes_of r.0 z start end.1) same r.1, r.2);
  }

  pub adds_token : {B : Type 0} {before : Open} {h : ℕ → Part B} {good : B → ℕ → Open → Type 0} {set : List ℕ} {put : ℕ → Open} {level at : ℕ} → Says kind_of bytes_of set put →
      ((n : ℕ) → n ≡ at → IsOf kind_of bytes_of set n → Adds kind_of bytes_of (h n) (suc n) (λ k. before (put n k)) good) → Adds kind_of bytes_of (one_among set level >>= h) at before good
  adds_token {B} {before} {h} {good} {set} {put} {level} {at} s q = adds_view (λ n. n) s (λ t e. refl)
      (λ a n e p i. subst (λ m. Adds kind_of bytes_of (h m) (suc n) (λ k. before (put n k)) good) (sym e) (q n p i))

  pub adds_word : {B : Type 0} {before : Open} {h : NamedToken → Part B} {good : B → ℕ → Open → Type 0} {set : List ℕ} {put : ℕ → Open} {level at : ℕ} → Says kind_of bytes_of set put →
      ((word : NamedToken) (n : ℕ) → word ≡ word_at bytes_of n → n ≡ at → IsOf kind_of bytes_of set n → Adds kind_of bytes_of (h word) (suc n) (λ k. before (put n k)) good) → Adds kind_of bytes_of (one_word set level >>= h) at before good
  adds_word s q = adds_view (word_at bytes_of) s (λ t e. ap (λ (b : List ℕ). record { token = t.number; bytes = b }) (sym e)) q

  -- The word is that of its token.
  pub adds_named : {B : Type 0} {before : Open} (h : NamedToken → Part B) {good : B → ℕ → Open → Type 0} {set : List ℕ} {put : ℕ → Open} {level at : ℕ} → Says kind_of bytes_of set put →
      ((n : ℕ) → n ≡ at → IsOf kind_of bytes_of set n → Adds kind_of bytes_of (h (word_at bytes_of n)) (suc n) (λ k. before (put n k)) good) → Adds kind_of bytes_of (one_word set level >>= h) at before good
  adds_named {B} {before} h {good} {set} {put} {level} {at} s q = adds_word s
      (λ word n e p i. subst (λ (w : NamedToken). Adds kind_of bytes_of (h w) (suc n) (λ k. before (put n k)) good) (sym e) (q n p i))

  -- A token of a set without `(` is none.
  pub no_paren : {set : List ℕ} {n : ℕ} → has set (mark MARK_LEFT_PAREN) ≡ false → IsOf kind_of bytes_of set n → IsNoParen kind_of n
  no_paren {set = set} {n = n} apart i = λ e.
      let same : Some i.kind ≡ Some (k.Mark MARK_LEFT_PAREN) = sym i.is ∙ e in
      let is : i.kind ≡ k.Mark MARK_LEFT_PAREN = cc in
      never (sym apart ∙ subst (λ x. has set (terminal_where (is_typedef_name i.scopes) x i.spelling) ≡ true) is i.fits)

  -- ---- Scopes

  pub adds_declaring : {A : Type 0} {at : ℕ} {before : Open} {good : A → ℕ → Open → Type 0} (name : Option NamedToken) (typedef : Bool) (a : A) → good a at (λ k. before (names name typedef k)) →
      Adds kind_of bytes_of (declaring name typedef a) at before good
  adds_declaring name typedef a h = adds_changing (with_name name typedef) (names name typedef) (names_met kind_of bytes_of name typedef) a h

  pub adds_leaving : {A : Type 0} {at : ℕ} {before : Open} {good : A → ℕ → Open → Type 0} (a : A) → good a at (λ k. before (meets Closes k)) → Adds kind_of bytes_of (leaving a) at before good
  adds_leaving a h = adds_changing left_scopes (meets Closes) (λ k ts scopes end f. (f.0, (tt, f.1))) a h

  pub adds_entering : {B : Type 0} {h : Prim.Unit {0} → Part B} {at : ℕ} {before : Open} {good : B → ℕ → Open → Type 0} → ((t : Prim.Unit {0}) → Adds kind_of bytes_of (h t) at (λ k. before (meets Opens k)) good) →
      Adds kind_of bytes_of (entering >>= h) at before good
  adds_entering {h = h} {at = at} q = record {
    adds = λ u start scopes w stop end kn run pre x.
        let e : w ≡ x.back = x.split ∙ ap (λ (z : List (Leveled KeptToken)). z ++ x.back) x.begin.none in
        let rest : h tt (entered scopes) x.back end = subst (λ (v : Prim.Unit {0} × OpenScopes). h v.0 v.1 x.back end) x.begin.same x.rest in
        let r = (q tt).adds u start (entered scopes) x.back stop end (subst (AreKnown kind_of bytes_of) e kn) (subst (λ (z : List (Leveled KeptToken)). Runs at z stop) e run)
        (λ k v end' f. pre (meets Opens k) v end' (f.0, (tt, f.1))) rest in
        (r.0, subst (λ (z : List (Leveled KeptToken)). Before kind_of bytes_of r.0 (u ++ tokens_of z) start end.1) (sym e) r.1, r.2);
  }

  -- ---- Loops

  adds_steps : {S : Type 0} {at : ℕ} {before : Open} (n : ℕ) {step : S → Part S} {good : S → ℕ → Open → Type 0} →
      ((s : S) (m : ℕ) (f : Open) → good s m f → Adds kind_of bytes_of (step s) m f good) → (s : S) → good s at before → Adds kind_of bytes_of (λ scope. steps n (λ end. step end.0 end.1) (s, scope)) at before good
  unfolding steps
  adds_steps zero p s g = adds_pure s g
  adds_steps (suc n) p s g = adds_or (adds_then (p s _ _ g) (λ r m f h. adds_steps n p r h)) (adds_pure s g)

  pub adds_many : {S : Type 0} {at : ℕ} {before : Open} (n : ℕ) {step : S → Part S} {good : S → ℕ → Open → Type 0} →
      ((s : S) (m : ℕ) (f : Open) → good s m f → Adds kind_of bytes_of (step s) m f good) → (s : S) → good s at before → Adds kind_of bytes_of (many n step s) at before good
  adds_many n p s g = adds_steps n p s g

  pub adds_after : {S A : Type 0} {go : S → Part A} {fine : S → ℕ → Open → Type 0} {good : A → ℕ → Open → Type 0} →
      ((s : S) (m : ℕ) (f : Open) → fine s m f → Adds kind_of bytes_of (go s) m f good) → (t : Turn S A) (m : ℕ) (f : Open) → by_turn fine good t m f → Adds kind_of bytes_of (after go t) m f good
  adds_after p (Again s) m f g = p s m f g
  adds_after p (Done a) m f g = adds_pure a g

  pub adds_repeat : {S A : Type 0} {at : ℕ} {before : Open} (n : ℕ) {turn : S → Part (Turn S A)} {fine : S → ℕ → Open → Type 0} {good : A → ℕ → Open → Type 0} →
      ((s : S) (m : ℕ) (f : Open) → fine s m f → Adds kind_of bytes_of (turn s) m f (by_turn fine good)) → (s : S) → fine s at before → Adds kind_of bytes_of (repeat n turn s) at before good
  unfolding repeat
  adds_repeat zero p s g = record { adds = λ u start scopes w stop end kn run pre x. absurd x }
  adds_repeat (suc n) p s g = adds_then (p s _ _ g) (adds_after (λ r m f h. adds_repeat n p r h))
