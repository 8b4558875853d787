-- Words of the same lexemes and levels: where one is a word, so is the other, with a value of the
-- same form. One lemma for each way to put rules together.

use Rattle.std.proofs.Common.{◌≡◌, ◌⊎◌, inl, inr, ℕ, zero, suc, Bool, true, false, List, [], ◌∷◌, ◌++◌, refl, sym, ap, ◌∙◌, subst}
use Rattle.c_lexer.specs.Lexemes.{Lexeme}
use Rattle.c_scopes.specs.Scopes.{OpenScopes}
use Rattle.reading.specs.Terminals.{has}
use Rattle.reading.specs.declared.turn.Turn.{Turn}
use Rattle.reading.specs.declared.turn.Turn.TheVariants.{Again, Done}
use Rattle.reading.specs.Languages.{Leveled, tokens_of, steps}
use Rattle.reading.specs.Rules.{◌>>=◌, ◌or◌, pure, one, many, repeat, after}
use Rattle.c_reading.specs.Kept.{KeptToken}
use Rattle.c_reading.specs.Cursors.{terminal_in}
use Rattle.c_reading.specs.Terminals.{terminal_where}
use Rattle.c_syntax.specs.Scoping.{Part, is_typedef_name, terminal_of}
use Rattle.c_syntax.specs.Steps.{one_among}

-- The same lexemes on the same levels.
abbrev pub Same : List (Leveled KeptToken) → List (Leveled KeptToken) → Type 0
Same [] [] = Prim.Unit {0}
Same [] (t ∷ w) = ⊥
Same (s ∷ v) [] = ⊥
Same (s ∷ v) (t ∷ w) = (s.0.lexeme ≡ t.0.lexeme) × (s.1 ≡ t.1) × Same v w

record Halves (v u w : List (Leveled KeptToken)) : Type 0 where
  front : List (Leveled KeptToken)
  back : List (Leveled KeptToken)
  split : w ≡ front ++ back
  begin : Same v front
  rest : Same u back

halves : (v u w : List (Leveled KeptToken)) → Same (v ++ u) w → Halves v u w
halves [] u w h = record { front = []; back = w; split = refl; begin = tt; rest = h }
halves (s ∷ v) u [] h = absurd h
halves (s ∷ v) u (t ∷ w) h = let r = halves v u w h.2 in
    record { front = t ∷ r.front; back = r.back; split = ap (λ (z : List (Leveled KeptToken)). t ∷ z) r.split; begin = (h.0, h.1, r.begin); rest = r.rest }

none_same : (w : List (Leveled KeptToken)) → Same [] w → w ≡ []
none_same [] h = refl
none_same (t ∷ w) h = absurd h

pub record Alike {A : Type 0} (X Y : Part A) (R : A → A → Type 0) : Type 0 where
  pub alike : (scopes : OpenScopes) (v w : List (Leveled KeptToken)) → Same v w → (e : A × OpenScopes) → X scopes v e → (b : A) × Y scopes w (b, e.1) × R e.0 b

-- Nothing is asked of the values.
abbrev pub any : {A : Type 0} → A → A → Type 0
any a b = Prim.Unit {0}

pub alike_pure : {A : Type 0} {R : A → A → Type 0} (a b : A) → R a b → Alike (pure a) (pure b) R
alike_pure {R = R} a b r = record {
  alike = λ scopes v w h e x. (
    b,
    record { none = none_same w (subst (λ (z : List (Leveled KeptToken)). Same z w) x.none h); same = ap (λ (z : OpenScopes). (b, z)) (ap (λ (z : _). z.1) x.same) },
    subst (λ (z : _). R z b) (sym (ap (λ (z : _). z.0) x.same)) r,
  );
}

pub alike_then : {A B : Type 0} {X Y : Part A} {f g : A → Part B} {R : A → A → Type 0} {S : B → B → Type 0} → Alike X Y R → ((a b : A) → R a b → Alike (f a) (g b) S) → Alike (X >>= f) (Y >>= g) S
alike_then p q = record {
  alike = λ scopes v w h e x.
      let r = halves x.front x.back w (subst (λ (z : List (Leveled KeptToken)). Same z w) x.split h) in
      let y = p.alike scopes x.front r.front r.begin x.value x.begin in
      let z = (q x.value.0 y.0 y.2).alike x.value.1 x.back r.back r.rest e x.rest in
      (z.0, record { front = r.front; back = r.back; value = (y.0, x.value.1); split = r.split; begin = y.1; rest = z.1 }, z.2);
}

one_or_other : {A : Type 0} {X Y U V : Part A} {R : A → A → Type 0} → Alike X Y R → Alike U V R → (scopes : OpenScopes) (v w : List (Leveled KeptToken)) → Same v w → (e : A × OpenScopes) →
    X scopes v e ⊎ U scopes v e → (b : A) × (Y scopes w (b, e.1) ⊎ V scopes w (b, e.1)) × R e.0 b
one_or_other p q scopes v w h e (inl x) = let r = p.alike scopes v w h e x in (r.0, inl r.1, r.2)
one_or_other p q scopes v w h e (inr x) = let r = q.alike scopes v w h e x in (r.0, inr r.1, r.2)

pub alike_or : {A : Type 0} {X Y U V : Part A} {R : A → A → Type 0} → Alike X Y R → Alike U V R → Alike (X or U) (Y or V) R
alike_or p q = record { alike = one_or_other p q }

one_same : (set : List ℕ) (level : ℕ) (scopes : OpenScopes) (t : KeptToken) (e : ℕ × OpenScopes) (w : List (Leveled KeptToken)) → Same ((t, level) ∷ []) w → has set (terminal_of scopes t) ≡ true →
    e.1 ≡ scopes → (b : ℕ) × one_among set level scopes w (b, e.1) × Prim.Unit {0}
unfolding terminal_in
one_same set level scopes t e [] h g s = absurd h
one_same set level scopes t e (u ∷ []) h g s = (
  u.0.number,
  record {
    token = u.0;
    is = ap (λ (l : ℕ). (u.0, l) ∷ []) (sym h.1);
    fits = subst (λ (x : Lexeme). has set (terminal_where (is_typedef_name scopes) x.kind x.spelling) ≡ true) h.0 g;
    value = ap (λ (z : OpenScopes). (u.0.number, z)) s;
  },
  tt,
)
one_same set level scopes t e (u ∷ x ∷ w) h g s = absurd h.2

pub alike_one : (set : List ℕ) (level : ℕ) → Alike (one_among set level) (one_among set level) any
alike_one set level = record {
  alike = λ scopes v w h e x.
      one_same set level scopes x.token e w (subst (λ (z : List (Leveled KeptToken)). Same z w) x.is h) x.fits (ap (λ (z : _). z.1) x.value);
}

pub alike_token : {B : Type 0} {f g : ℕ → Part B} {S : B → B → Type 0} {set : List ℕ} {level : ℕ} → ((m n : ℕ) → Alike (f m) (g n) S) → Alike (one_among set level >>= f) (one_among set level >>= g) S
alike_token {set = set} {level = level} q = alike_then (alike_one set level) (λ m n r. q m n)

alike_steps : {S : Type 0} (n : ℕ) {step : S → Part S} {R : S → S → Type 0} → ((s r : S) → R s r → Alike (step s) (step r) R) → (s r : S) → R s r →
    Alike (λ scope. steps n (λ end. step end.0 end.1) (s, scope)) (λ scope. steps n (λ end. step end.0 end.1) (r, scope)) R
unfolding steps
alike_steps zero p s r h = alike_pure s r h
alike_steps (suc n) p s r h = alike_or (alike_then (p s r h) (λ a b g. alike_steps n p a b g)) (alike_pure s r h)

pub alike_many : {S : Type 0} (n : ℕ) {step : S → Part S} {R : S → S → Type 0} → ((s r : S) → R s r → Alike (step s) (step r) R) → (s r : S) → R s r → Alike (many n step s) (many n step r) R
alike_many n p s r h = alike_steps n p s r h

abbrev pub turns_alike : {S A : Type 0} → (S → S → Type 0) → (A → A → Type 0) → Turn S A → Turn S A → Type 0
turns_alike R Q (Again s) (Again r) = R s r
turns_alike R Q (Again s) (Done b) = ⊥
turns_alike R Q (Done a) (Again r) = ⊥
turns_alike R Q (Done a) (Done b) = Q a b

after_alike : {S A : Type 0} {go : S → Part A} {R : S → S → Type 0} {Q : A → A → Type 0} → ((s r : S) → R s r → Alike (go s) (go r) Q) → (t u : Turn S A) → turns_alike R Q t u → Alike (after go t) (after go u) Q
after_alike p (Again s) (Again r) h = p s r h
after_alike p (Again s) (Done b) h = absurd h
after_alike p (Done a) (Again r) h = absurd h
after_alike p (Done a) (Done b) h = alike_pure a b h

pub alike_repeat : {S A : Type 0} (n : ℕ) {turn : S → Part (Turn S A)} {R : S → S → Type 0} {Q : A → A → Type 0} → ((s r : S) → R s r → Alike (turn s) (turn r) (turns_alike R Q)) → (s r : S) → R s r →
    Alike (repeat n turn s) (repeat n turn r) Q
unfolding repeat
alike_repeat zero p s r h = record { alike = λ scopes v w g e x. absurd x }
alike_repeat (suc n) p s r h = alike_then (p s r h) (after_alike (λ a b g. alike_repeat n p a b g))
