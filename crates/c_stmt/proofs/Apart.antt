-- Two parts of which no word begins one of the other: what one token of lookahead does not decide is
-- read exactly, where each is and its reader is chosen for a reason.

use Rattle.std.proofs.Common.{◌≡◌, inl, inr, ℕ, suc, Bool, true, false, List, [], ◌∷◌, ◌++◌, sym, ap, ◌∙◌, subst, append-nil}
use Rattle.reading.specs.Terminals.{has, is_within}
use Rattle.reading.specs.Languages.{Leveled, Language, tokens_of, either}
use Rattle.reading.specs.Rules.{Rule, ◌or◌}
use Rattle.reading.specs.Readers.{Reader, Outcome, begins}
use Rattle.reading.specs.Exact.{Family, AreNoWord, IsLongest, IsExact, reads, refuses, is_too_deep}
use Rattle.reading.proofs.Sets.{never, within, within_left, within_right, in_union}
use Rattle.reading.proofs.Cutting.{tokens_none}
use Rattle.reading.proofs.Predictive.{IsPredictive}
use Rattle.reading.proofs.Words.{Ready, ready_in, same_word}
use Rattle.reading.proofs.ReadBy.{Stage, Covers, IsWhole, no, IsReadBy}

-- No word of the second begins one of the first, and is none.
abbrev pub NoneBegins : {Token A B : Type 0} → Language Token A → Language Token B → Type 0
NoneBegins {Token} {A} {B} X Y = (v w : List (Leveled Token)) (a : A) (b : B) (u : List Token) → tokens_of v ≡ tokens_of w ++ u → X v a → Y w b → ⊥

-- ---- Both are predictive

module _ {Token A : Type 0} (X X' Y Y' : Language Token A) (first_x first_y : Token → Bool) (last_x last_y : A → Token → Bool)
    (px : IsPredictive X X' false first_x last_x) (py : IsPredictive Y Y' false first_y last_y) (xy : NoneBegins X Y) (yx : NoneBegins Y X) where
  pub predictive_apart : (first' : Token → Bool) (last' : A → Token → Bool) →
      ((c : Token) → first_x c ≡ true → first' c ≡ true) → ((c : Token) → first_y c ≡ true → first' c ≡ true) →
      ((a : A) (c : Token) → last_x a c ≡ true → last' a c ≡ true) → ((a : A) (c : Token) → last_y a c ≡ true → last' a c ≡ true) →
      IsPredictive (either X Y) (either X' Y') false first' last'
  predictive_apart first' last' fx fy lx ly = record {
    grows = λ w a z. elim z [ inl x ↦ inl (px.grows w a x) | inr y ↦ inr (py.grows w a y) ];
    nullable = λ a z. elim z [ inl x ↦ px.nullable a x | inr y ↦ py.nullable a y ];
    begins = λ s w a z. elim z [ inl x ↦ fx _ (px.begins s w a x) | inr y ↦ fy _ (py.begins s w a y) ];
    follows = on;
    unambiguous = same;
  }
    where
      on : (v w : List (Leveled Token)) (t : Token) (u : List Token) (a b : A) → tokens_of w ≡ tokens_of v ++ t ∷ u → either X Y v a → either X Y w b → last' a t ≡ true
      on v w t u a b e (inl x) (inl x') = lx a _ (px.follows v w t u a b e x x')
      on v w t u a b e (inl x) (inr y) = absurd (yx w v b a (t ∷ u) e y x)
      on v w t u a b e (inr y) (inl x) = absurd (xy w v b a (t ∷ u) e x y)
      on v w t u a b e (inr y) (inr y') = ly a _ (py.follows v w t u a b e y y')

      same : (v w : List (Leveled Token)) (a b : A) → tokens_of v ≡ tokens_of w → either X Y v a → either X Y w b → a ≡ b
      same v w a b e (inl x) (inl x') = px.unambiguous v w a b e x x'
      same v w a b e (inl x) (inr y) = absurd (xy v w a b [] (e ∙ sym (append-nil (tokens_of w))) x y)
      same v w a b e (inr y) (inl x) = absurd (yx v w a b [] (e ∙ sym (append-nil (tokens_of w))) y x)
      same v w a b e (inr y) (inr y') = py.unambiguous v w a b e y y'

-- ---- Each is exact where it is chosen

module _ {Token Scope Around A : Type 0} (IsLexeme : Token → Type 0) (around : Around) (X Y : Family Token (A × Scope)) where
  abbrev pub OrFamily : Family Token (A × Scope)
  OrFamily d = either (X d) (Y d)

  -- No word of a family goes on from a run of these tokens.
  abbrev pub GoesNot : Family Token (A × Scope) → List (Leveled Token) → List Token → Type 0
  GoesNot Z run left = IsLongest Z run left × AreNoWord Z (tokens_of run)

  longest_or : (run : List (Leveled Token)) (left : List Token) → IsLongest X run left → IsLongest Y run left → IsLongest OrFamily run left
  longest_or run left p q t us more h d w b g (inl x) = p t us more h d w b g x
  longest_or run left p q t us more h d w b g (inr y) = q t us more h d w b g y

  none_or : (run : List (Leveled Token)) → AreNoWord X (tokens_of run) → AreNoWord Y (tokens_of run) → AreNoWord OrFamily (tokens_of run)
  none_or run p q d w b g (inl x) = p d w b g x
  none_or run p q d w b g (inr y) = q d w b g y

  -- The first is exact, and no word of the second goes on from its run.
  pub exact_first : (ts : List Token) → ((run : List (Leveled Token)) (left : List Token) → ts ≡ tokens_of run ++ left → IsLongest X run left → GoesNot Y run left) →
      (o : Outcome Token Scope Around A) → IsExact IsLexeme around X ts o → IsExact IsLexeme around OrFamily ts o
  exact_first ts apart o (reads run left d a sc e sh x long) = reads run left d a sc e sh (inl x) (longest_or run left long (apart run left e long).0)
  exact_first ts apart o (refuses run more left d a sc e sh lex x long none) =
      let k = apart run left e long in refuses run more left d a sc e sh lex (inl x) (longest_or run left long k.0) (none_or run none k.1)
  exact_first ts apart o (is_too_deep run more s level left d a sc e sh k lex x) = is_too_deep run more s level left d a sc e sh k lex (inl x)

  pub exact_other : (ts : List Token) → ((run : List (Leveled Token)) (left : List Token) → ts ≡ tokens_of run ++ left → IsLongest Y run left → GoesNot X run left) →
      (o : Outcome Token Scope Around A) → IsExact IsLexeme around Y ts o → IsExact IsLexeme around OrFamily ts o
  exact_other ts apart o (reads run left d a sc e sh y long) = reads run left d a sc e sh (inr y) (longest_or run left (apart run left e long).0 long)
  exact_other ts apart o (refuses run more left d a sc e sh lex y long none) =
      let k = apart run left e long in refuses run more left d a sc e sh lex (inr y) (longest_or run left k.0 long) (none_or run k.1 none)
  exact_other ts apart o (is_too_deep run more s level left d a sc e sh k lex y) = is_too_deep run more s level left d a sc e sh k lex (inr y)

-- ---- From tokens with which no word begins none goes on

module _ {Token A : Type 0} (X : Family Token A) (not_empty : (d : ℕ) (a : A) → X d [] a → ⊥) where
  nothing_left : (left : List Token) → [] ≡ left → IsLongest X [] left
  nothing_left left e t us more h d w b g x = absurd (let k : [] ≡ t ∷ us = e ∙ h in cc)

  empty_is_none : AreNoWord X []
  empty_is_none d w b g x = not_empty d b (subst (λ z. X d z b) (tokens_none w g) x)

  -- No tokens are there.
  pub none_of_none : (run : List (Leveled Token)) (left : List Token) → [] ≡ tokens_of run ++ left → IsLongest X run left × AreNoWord X (tokens_of run)
  none_of_none [] left e = (nothing_left left e, empty_is_none)
  none_of_none (z ∷ run) left e = absurd (cc)

  -- The first token begins no word.
  pub none_of_first : (t : Token) (ts : List Token) → ((d : ℕ) (w : List (Leveled Token)) (a : A) (vs : List Token) → tokens_of w ≡ t ∷ vs → X d w a → ⊥) →
      (run : List (Leveled Token)) (left : List Token) → t ∷ ts ≡ tokens_of run ++ left → IsLongest X run left × AreNoWord X (tokens_of run)
  none_of_first t ts none [] left e = (λ s us more h d w b g x. none d w b more (g ∙ (let k : t ≡ s = (let l : t ∷ ts ≡ s ∷ us = e ∙ h in cc) in ap (λ y. y ∷ more) (sym k))) x, empty_is_none)
  none_of_first t ts none (z ∷ run) left e = (
    λ s us more h d w b g x. none d w b (tokens_of run ++ s ∷ more) (g ∙ ap (λ y. y ∷ (tokens_of run ++ s ∷ more)) (let k : z.0 ≡ t = cc in k)) x,
    λ d w b g x. none d w b (tokens_of run) (g ∙ ap (λ y. y ∷ tokens_of run) (let k : z.0 ≡ t = cc in k)) x,
  )

  -- A test that the second token of a word passes is passed by that of the tokens.
  abbrev Passes : List Token → List Token → Type 0
  Passes vs ts = (test : Token → Bool) → begins test vs ≡ true → begins test ts ≡ true

  -- The first two tokens begin no word.
  module _ (t : Token) (ts : List Token) (none : (d : ℕ) (w : List (Leveled Token)) (a : A) (vs : List Token) → tokens_of w ≡ t ∷ vs → Passes vs ts → X d w a → ⊥) where
    longest_from : (z : Leveled Token) (run : List (Leveled Token)) (left : List Token) → t ∷ ts ≡ z.0 ∷ (tokens_of run ++ left) → IsLongest X (z ∷ run) left
    longest_from z [] left e s us more h d w b g x =
        none d w b (s ∷ more) (g ∙ ap (λ y. y ∷ s ∷ more) (let k : z.0 ≡ t = cc in k))
        (λ test f. subst (λ y. begins test y ≡ true) (let k : s ∷ us ≡ ts = (let l : left ≡ ts = cc in sym h ∙ l) in k) f) x
    longest_from z (y ∷ run) left e s us more h d w b g x =
        none d w b (y.0 ∷ (tokens_of run ++ s ∷ more)) (g ∙ ap (λ r. r ∷ y.0 ∷ (tokens_of run ++ s ∷ more)) (let k : z.0 ≡ t = cc in k))
        (λ test f. subst (λ r. begins test r ≡ true) (let k : y.0 ∷ (tokens_of run ++ left) ≡ ts = cc in k) f) x

    none_from : (z : Leveled Token) (run : List (Leveled Token)) (left : List Token) → t ∷ ts ≡ z.0 ∷ (tokens_of run ++ left) → AreNoWord X (z.0 ∷ tokens_of run)
    none_from z [] left e d w b g x = none d w b [] (g ∙ ap (λ y. y ∷ []) (let k : z.0 ≡ t = cc in k)) (λ test f. never f) x
    none_from z (y ∷ run) left e d w b g x =
        none d w b (y.0 ∷ tokens_of run) (g ∙ ap (λ r. r ∷ y.0 ∷ tokens_of run) (let k : z.0 ≡ t = cc in k))
        (λ test f. subst (λ r. begins test r ≡ true) (let k : y.0 ∷ (tokens_of run ++ left) ≡ ts = cc in k) f) x

    -- The run has a token, since the other part has words that begin with it.
    pub none_of_second : {Y : Family Token A} → Ready Y t → (run : List (Leveled Token)) (left : List Token) → t ∷ ts ≡ tokens_of run ++ left → IsLongest Y run left →
        IsLongest X run left × AreNoWord X (tokens_of run)
    none_of_second r [] left e long = absurd (long t ts r.rest (sym e) r.turns r.word r.value r.begins r.is)
    none_of_second r (z ∷ run) left e long = (longest_from z run left e, none_from z run left e)

-- ---- One part or the other

module _ {Token Scope Around : Type 0} {terminal_of : Scope → Token → ℕ} {IsLexeme : Token → Type 0} {stage : Stage} {given A : Type 0}
    {X Y : ℕ → Rule Token Scope A} {p q : Reader Token Scope Around A} {first_x first_y : List ℕ} {last_x last_y : A → List ℕ}
    (rx : IsReadBy terminal_of IsLexeme stage given X p no first_x last_x) (ry : IsReadBy terminal_of IsLexeme stage given Y q no first_y last_y)
    (xy : (d : ℕ) → Covers stage d → (scope : Scope) → NoneBegins (X d scope) (Y d scope)) (yx : (d : ℕ) → Covers stage d → (scope : Scope) → NoneBegins (Y d scope) (X d scope)) where
  pub read_apart : (last' : A → List ℕ) → ((a : A) → is_within (last_x a) (last' a) ≡ true) → ((a : A) → is_within (last_y a) (last' a) ≡ true) →
      (r : Reader Token Scope Around A) →
      (IsWhole stage → given → (around : Around) (scope : Scope) (ts : List Token) →
      IsExact IsLexeme around (λ d. (X d or Y d) scope) ts (r (record { tokens = ts; scope = scope; around = around }))) →
      IsReadBy terminal_of IsLexeme stage given (λ d. X d or Y d) r no (first_x ++ first_y) last'
  read_apart last' lasts_x lasts_y r exact = record {
    predictive = λ d h scope. predictive_apart (X d scope) (X (suc d) scope) (Y d scope) (Y (suc d) scope) (λ t. has first_x (terminal_of scope t)) (λ t. has first_y (terminal_of scope t))
        (λ end t. has (last_x end.0) (terminal_of end.1 t)) (λ end t. has (last_y end.0) (terminal_of end.1 t)) (rx.predictive d h scope) (ry.predictive d h scope)
        (xy d h scope) (yx d h scope)
        (λ t. has (first_x ++ first_y) (terminal_of scope t)) (λ end t. has (last' end.0) (terminal_of end.1 t))
        (λ t. within first_x (first_x ++ first_y) (within_left first_x first_y) (terminal_of scope t))
        (λ t. within first_y (first_x ++ first_y) (within_right first_x first_y) (terminal_of scope t))
        (λ end t. within (last_x end.0) (last' end.0) (lasts_x end.0) (terminal_of end.1 t))
        (λ end t. within (last_y end.0) (last' end.0) (lasts_y end.0) (terminal_of end.1 t));
    keeps = λ d h scope end x. tt;
    some = λ scope. same_word (λ d w a x. inl x) (rx.some scope);
    exact = exact;
    ready = λ s g scope t h. elim (in_union first_x first_y (terminal_of scope t) h) [
      | inl x ↦ ready_in (λ d w a y. inl y) (rx.ready s g scope t x)
      | inr y ↦ ready_in (λ d w a z. inr z) (ry.ready s g scope t y)
    ];
    empty = λ s g e scope. never e;
  }
