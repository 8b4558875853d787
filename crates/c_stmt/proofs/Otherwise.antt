-- One part where the next token begins it, or else the words of another that it leaves, are read exactly.

use Rattle.std.proofs.Common.{◌≡◌, inl, inr, ℕ, suc, Bool, true, false, if◌then◌else◌, List, [], ◌∷◌, ◌++◌, refl, sym, ◌∙◌, subst}
use Rattle.reading.specs.Terminals.{has, is_within, are_disjoint}
use Rattle.reading.specs.Languages.{Leveled, tokens_of}
use Rattle.reading.specs.Rules.{Rule, ◌or◌}
use Rattle.reading.specs.Readers.{Reader, Input, Outcome, begins, branch}
use Rattle.reading.specs.Exact.{AreNoWord, IsLongest, IsExact, reads, refuses, is_too_deep}
use Rattle.reading.proofs.Sets.{never, within, within_left, within_right, in_union, disjoint}
use Rattle.reading.proofs.Cutting.{tokens_none}
use Rattle.reading.proofs.Predictive.{IsPredictive, head_fits}
use Rattle.reading.proofs.PredictiveEither.{predictive_either}
use Rattle.reading.proofs.ExactEither.{exact_left}
use Rattle.reading.proofs.Words.{Word, Ready, ready_in, same_word, word_of}
use Rattle.reading.proofs.ReadBy.{Stage, Covers, IsWhole, covers_all, no, IsReadBy}
use Rattle.c_stmt.specs.Choices.{without}

module _ {Token Scope Around : Type 0} {terminal_of : Scope → Token → ℕ} {IsLexeme : Token → Type 0} {stage : Stage} {given A : Type 0}
    {X Y : ℕ → Rule Token Scope A} {p q : Reader Token Scope Around A} {first_x first_y : List ℕ} {last : A → List ℕ} (rest_y : List ℕ)
    (rx : IsReadBy terminal_of IsLexeme stage given X p no first_x last) (ry : IsReadBy terminal_of IsLexeme stage given Y q no first_y last)
    (of_y : is_within first_y (first_x ++ rest_y) ≡ true) (in_y : is_within rest_y first_y ≡ true) (apart : are_disjoint rest_y first_x ≡ true) where
  abbrev In : Scope → Token → Bool
  In scope t = has first_x (terminal_of scope t)

  abbrev Rest : Scope → Token → Bool
  Rest scope t = has rest_y (terminal_of scope t)

  abbrev Last : A × Scope → Token → Bool
  Last end t = has (last end.0) (terminal_of end.1 t)

  abbrev Y' : ℕ → Rule Token Scope A
  Y' d = without terminal_of first_x (Y d)

  -- What begins a word of the second is left by the first.
  begins_rest : (d : ℕ) → Covers stage d → (scope : Scope) (z : Leveled Token) (w : List (Leveled Token)) (a : A × Scope) → Y' d scope (z ∷ w) a → Rest scope z.0 ≡ true
  begins_rest d h scope z w a y =
      elim (in_union first_x rest_y (terminal_of scope z.0) (within first_y (first_x ++ rest_y) of_y (terminal_of scope z.0) ((ry.predictive d h scope).begins z w a y.0))) [
        | inl m ↦ never (sym y.1 ∙ m)
        | inr r ↦ r
      ]

  rest_predictive : (d : ℕ) → Covers stage d → (scope : Scope) → IsPredictive (Y' d scope) (Y' (suc d) scope) false (Rest scope) Last
  rest_predictive d h scope = record {
    grows = λ w a y. ((ry.predictive d h scope).grows w a y.0, y.1);
    nullable = λ a y. (ry.predictive d h scope).nullable a y.0;
    begins = λ z w a y. begins_rest d h scope z w a y;
    follows = λ v w t u a b e x y. (ry.predictive d h scope).follows v w t u a b e x.0 y.0;
    unambiguous = λ v w a b e x y. (ry.predictive d h scope).unambiguous v w a b e x.0 y.0;
  }

  module _ (s : IsWhole stage) (g : given) (around : Around) (scope : Scope) where
    abbrev At : List Token → Input Token Scope Around
    At ts = record { tokens = ts; scope = scope; around = around }

    all_at : (d : ℕ) → Covers stage d
    all_at d = covers_all stage s d

    abbrev Or : ℕ → Rule Token Scope A
    Or d = X d or Y' d

    -- A word from tokens with which the first part does not begin is left by it.
    is_left : (z : Leveled Token) (run more : List (Leveled Token)) (left ts : List Token) → ts ≡ z.0 ∷ (tokens_of run ++ left) → begins (In scope) ts ≡ false → In scope z.0 ≡ false
    is_left z run more left ts e h = subst (λ y. begins (In scope) y ≡ false) e h

    no_x : (ts : List Token) → begins (In scope) ts ≡ false → (d : ℕ) (w : List (Leveled Token)) (a : A × Scope) (t : Token) (r vs : List Token) → ts ≡ t ∷ r → tokens_of w ≡ t ∷ vs →
        X d scope w a → ⊥
    no_x ts h d w a t r vs e k x =
        never (sym (subst (λ y. begins (In scope) y ≡ false) e h) ∙ head_fits (rx.predictive d (all_at d) scope) w a t vs k x)

    longest_rest : (ts : List Token) → begins (In scope) ts ≡ false → (run : List (Leveled Token)) (left : List Token) → ts ≡ tokens_of run ++ left →
        IsLongest (λ d. Y d scope) run left → IsLongest (λ d. Or d scope) run left
    longest_rest ts h run left e long t us more k d w b f (inr y) = long t us more k d w b f y.0
    longest_rest ts h [] left e long t us more k d w b f (inl x) = no_x ts h d w b t us more (e ∙ k) f x
    longest_rest ts h (z ∷ run) left e long t us more k d w b f (inl x) = no_x ts h d w b z.0 (tokens_of run ++ left) (tokens_of run ++ t ∷ more) e f x

    none_rest : (ts : List Token) → begins (In scope) ts ≡ false → (run : List (Leveled Token)) (left : List Token) → ts ≡ tokens_of run ++ left →
        AreNoWord (λ d. Y d scope) (tokens_of run) → AreNoWord (λ d. Or d scope) (tokens_of run)
    none_rest ts h run left e none d w b f (inr y) = none d w b f y.0
    none_rest ts h [] left e none d w b f (inl x) = never ((rx.predictive d (all_at d) scope).nullable b (subst (λ z. X d scope z b) (tokens_none w f) x))
    none_rest ts h (z ∷ run) left e none d w b f (inl x) = no_x ts h d w b z.0 (tokens_of run ++ left) (tokens_of run) e f x

    rest_exact : (ts : List Token) → begins (In scope) ts ≡ false → (o : Outcome Token Scope Around A) → IsExact IsLexeme around (λ d. Y d scope) ts o →
        IsExact IsLexeme around (λ d. Or d scope) ts o
    rest_exact ts h o (reads [] left d a sc e sh y long) = never ((ry.predictive d (all_at d) scope).nullable (a, sc) y)
    rest_exact ts h o (reads (z ∷ run) left d a sc e sh y long) =
        reads (z ∷ run) left d a sc e sh (inr (y, is_left z run [] left ts e h)) (longest_rest ts h (z ∷ run) left e long)
    rest_exact ts h o (refuses [] more left d a sc e sh lex y long none) =
        let w : Word IsLexeme (λ d. X d scope) = word_of (rx.some scope) in
        refuses [] w.word left w.turns w.value sc e sh w.lexemes (inl w.is) (longest_rest ts h [] left e long) (none_rest ts h [] left e none)
    rest_exact ts h o (refuses (z ∷ run) more left d a sc e sh lex y long none) =
        refuses (z ∷ run) more left d a sc e sh lex (inr (y, is_left z run more left ts e h)) (longest_rest ts h (z ∷ run) left e long) (none_rest ts h (z ∷ run) left e none)
    rest_exact ts h o (is_too_deep [] more t level left d a sc e sh k lex y) =
        is_too_deep [] more t level left d a sc e sh k lex (inr (y, subst (λ r. begins (In scope) r ≡ false) e h))
    rest_exact ts h o (is_too_deep (z ∷ run) more t level left d a sc e sh k lex y) =
        is_too_deep (z ∷ run) more t level left d a sc e sh k lex (inr (y, is_left z run more (t ∷ left) ts e h))

    exact_at : (ts : List Token) (b : Bool) → begins (In scope) ts ≡ b → IsExact IsLexeme around (λ d. Or d scope) ts (if b then p (At ts) else q (At ts))
    exact_at [] true h = never h
    exact_at (t ∷ ts) true h =
        exact_left IsLexeme around (λ d. X d scope) (λ d. Y' d scope) false (In scope) (Rest scope) Last Last
        (λ d. rx.predictive d (all_at d) scope) (λ d. rest_predictive d (all_at d) scope) (In scope)
        (λ t. disjoint rest_y first_x apart (terminal_of scope t)) t ts h (λ e. never e)
        (p (At (t ∷ ts))) (rx.exact s g around scope (t ∷ ts))
    exact_at ts false h = rest_exact ts h (q (At ts)) (ry.exact s g around scope ts)

  -- A word of the second that begins with a token which the first leaves.
  ready_rest : IsWhole stage → given → (scope : Scope) (t : Token) → Rest scope t ≡ true → Ready (λ d. (X d or Y' d) scope) t
  ready_rest s g scope t h =
      let w = ry.ready s g scope t (within rest_y first_y in_y (terminal_of scope t) h) in record {
        word = w.word;
        value = w.value;
        turns = w.turns;
        rest = w.rest;
        begins = w.begins;
        is = inr (w.is, subst (λ r. begins (In scope) r ≡ false) (sym w.begins) (outside t h (In scope t) refl));
      }
    where
      outside : (t : Token) → Rest scope t ≡ true → (b : Bool) → In scope t ≡ b → In scope t ≡ false
      outside t h true e = absurd (disjoint rest_y first_x apart (terminal_of scope t) h e)
      outside t h false e = e

  pub read_otherwise : IsReadBy terminal_of IsLexeme stage given (λ d. X d or without terminal_of first_x (Y d)) (branch terminal_of first_x p q) no (first_x ++ rest_y) last
  read_otherwise = record {
    predictive = λ d h scope. predictive_either (X d scope) (X (suc d) scope) (Y' d scope) (Y' (suc d) scope) false (In scope) (Rest scope) Last Last
        (rx.predictive d h scope) (rest_predictive d h scope) (λ t e f. disjoint rest_y first_x apart (terminal_of scope t) f e)
        (λ t. has (first_x ++ rest_y) (terminal_of scope t)) Last
        (λ t. within first_x (first_x ++ rest_y) (within_left first_x rest_y) (terminal_of scope t))
        (λ t. within rest_y (first_x ++ rest_y) (within_right first_x rest_y) (terminal_of scope t))
        (λ end t e. e) (λ end t e. e) (λ end y t e. never ((ry.predictive d h scope).nullable end y.0));
    keeps = λ d h scope end x. tt;
    some = λ scope. same_word (λ d w a x. inl x) (rx.some scope);
    exact = λ s g around scope ts. exact_at s g around scope ts (begins (In scope) ts) refl;
    ready = λ s g scope t h. elim (in_union first_x rest_y (terminal_of scope t) h) [
      | inl x ↦ ready_in (λ d w a y. inl y) (rx.ready s g scope t x)
      | inr y ↦ ready_rest s g scope t y
    ];
    empty = λ s g e scope. never e;
  }
