-- Two parts that begin with the same tokens, behind which another one decides, are read exactly.

use Rattle.std.proofs.Common.{◌≡◌, inl, inr, ℕ, Bool, true, false, not, if◌then◌else◌, List, [], ◌∷◌, ◌++◌, refl, sym, ◌∙◌}
use Rattle.reading.specs.Terminals.{has, is_within, are_disjoint}
use Rattle.reading.specs.Languages.{Leveled, tokens_of}
use Rattle.reading.specs.Rules.{Rule, ◌or◌}
use Rattle.reading.specs.Readers.{Reader, Input, begins}
use Rattle.reading.specs.Exact.{IsExact}
use Rattle.reading.proofs.Sets.{never, within, within_itself, in_union, disjoint}
use Rattle.reading.proofs.Predictive.{head_fits}
use Rattle.reading.proofs.ReadBy.{Stage, Covers, IsWhole, covers_all, no, IsReadBy}
use Rattle.c_stmt.specs.Choices.{begins_second, by_second}
use Rattle.c_stmt.proofs.Apart.{NoneBegins, exact_first, exact_other, none_of_none, none_of_first, none_of_second, read_apart}

module _ {Token : Type 0} (test : Token → Bool) where
  not_both : (b : Bool) → b ≡ true → not b ≡ true → ⊥
  not_both true e f = never f
  not_both false e f = never e

  -- The first token of a list passes a test, and that of a longer one does not.
  passes_and_fails : (vs u : List Token) → begins test vs ≡ true → begins (λ t. not (test t)) (vs ++ u) ≡ true → ⊥
  passes_and_fails [] u e f = never e
  passes_and_fails (v ∷ vs) u e f = not_both (test v) e f

  fails_and_passes : (vs u : List Token) → begins (λ t. not (test t)) vs ≡ true → begins test (vs ++ u) ≡ true → ⊥
  fails_and_passes [] u e f = never e
  fails_and_passes (v ∷ vs) u e f = not_both (test v) f e

  both_of_one : (vs : List Token) → begins test vs ≡ true → begins (λ t. not (test t)) vs ≡ true → ⊥
  both_of_one [] e f = never e
  both_of_one (v ∷ vs) e f = not_both (test v) e f

module _ {Token Scope Around : Type 0} {terminal_of : Scope → Token → ℕ} {IsLexeme : Token → Type 0} {stage : Stage} {given A : Type 0}
    {X Y : ℕ → Rule Token Scope A} {p q : Reader Token Scope Around A} {first_x first_y : List ℕ} {last : A → List ℕ} (shared seconds others rest_y : List ℕ)
    (rx : IsReadBy terminal_of IsLexeme stage given X p no first_x last) (ry : IsReadBy terminal_of IsLexeme stage given Y q no first_y last)
    (in_x : is_within shared first_x ≡ true) (in_y : is_within shared first_y ≡ true) (of_x : is_within first_x (shared ++ others) ≡ true)
    (of_y : is_within first_y (shared ++ rest_y) ≡ true) (against : are_disjoint rest_y others ≡ true)
    (second_x : (d : ℕ) → Covers stage d → (scope : Scope) (w : List (Leveled Token)) (end : A × Scope) (t : Token) (vs : List Token) → X d scope w end → tokens_of w ≡ t ∷ vs →
    has shared (terminal_of scope t) ≡ true → begins (λ u. has seconds (terminal_of scope u)) vs ≡ true)
    (second_y : (d : ℕ) → Covers stage d → (scope : Scope) (w : List (Leveled Token)) (end : A × Scope) (t : Token) (vs : List Token) → Y d scope w end → tokens_of w ≡ t ∷ vs →
    has shared (terminal_of scope t) ≡ true → begins (λ u. not (has seconds (terminal_of scope u))) vs ≡ true) where
  abbrev Shared : Scope → Token → Bool
  Shared scope t = has shared (terminal_of scope t)

  abbrev Second : Scope → Token → Bool
  Second scope t = has seconds (terminal_of scope t)

  abbrev Other : Scope → Token → Bool
  Other scope t = has others (terminal_of scope t)

  x_head : (d : ℕ) → Covers stage d → (scope : Scope) (w : List (Leveled Token)) (a : A × Scope) (t : Token) (vs : List Token) → tokens_of w ≡ t ∷ vs → X d scope w a →
      has first_x (terminal_of scope t) ≡ true
  x_head d h scope w a t vs e x = head_fits (rx.predictive d h scope) w a t vs e x

  y_head : (d : ℕ) → Covers stage d → (scope : Scope) (w : List (Leveled Token)) (a : A × Scope) (t : Token) (vs : List Token) → tokens_of w ≡ t ∷ vs → Y d scope w a →
      has first_y (terminal_of scope t) ≡ true
  y_head d h scope w a t vs e y = head_fits (ry.predictive d h scope) w a t vs e y

  -- What begins both is shared.
  in_both : (n : ℕ) → has first_x n ≡ true → has first_y n ≡ true → has shared n ≡ true
  in_both n e f = elim (in_union shared others n (within first_x (shared ++ others) of_x n e)) [
    | inl k ↦ k
    | inr o ↦ elim (in_union shared rest_y n (within first_y (shared ++ rest_y) of_y n f)) [ inl k ↦ k | inr r ↦ absurd (disjoint rest_y others against n r o) ]
  ]

  x_not_empty : (d : ℕ) → Covers stage d → (scope : Scope) (a : A × Scope) → X d scope [] a → ⊥
  x_not_empty d h scope a x = never ((rx.predictive d h scope).nullable a x)

  y_not_empty : (d : ℕ) → Covers stage d → (scope : Scope) (a : A × Scope) → Y d scope [] a → ⊥
  y_not_empty d h scope a y = never ((ry.predictive d h scope).nullable a y)

  -- No word of the one begins one of the other.
  xy : (d : ℕ) → Covers stage d → (scope : Scope) → NoneBegins (X d scope) (Y d scope)
  xy d h scope v [] a b u e x y = y_not_empty d h scope b y
  xy d h scope v (s ∷ w) a b u e x y =
      let k = in_both (terminal_of scope s.0) (x_head d h scope v a s.0 (tokens_of w ++ u) e x) (y_head d h scope (s ∷ w) b s.0 (tokens_of w) refl y) in
      fails_and_passes (Second scope) (tokens_of w) u (second_y d h scope (s ∷ w) b s.0 (tokens_of w) y refl k) (second_x d h scope v a s.0 (tokens_of w ++ u) x e k)

  yx : (d : ℕ) → Covers stage d → (scope : Scope) → NoneBegins (Y d scope) (X d scope)
  yx d h scope v [] a b u e y x = x_not_empty d h scope b x
  yx d h scope v (s ∷ w) a b u e y x =
      let k = in_both (terminal_of scope s.0) (x_head d h scope (s ∷ w) b s.0 (tokens_of w) refl x) (y_head d h scope v a s.0 (tokens_of w ++ u) e y) in
      passes_and_fails (Second scope) (tokens_of w) u (second_x d h scope (s ∷ w) b s.0 (tokens_of w) x refl k) (second_y d h scope v a s.0 (tokens_of w ++ u) y e k)

  module _ (s : IsWhole stage) (g : given) (around : Around) (scope : Scope) where
    abbrev At : List Token → Input Token Scope Around
    At ts = record { tokens = ts; scope = scope; around = around }

    all_at : (d : ℕ) → Covers stage d
    all_at d = covers_all stage s d

    shared_at : (t : Token) (ts : List Token) → Shared scope t ≡ true → (b : Bool) → begins (Second scope) ts ≡ b →
        IsExact IsLexeme around (λ d. (X d or Y d) scope) (t ∷ ts) (if b then p (At (t ∷ ts)) else q (At (t ∷ ts)))
    shared_at t ts h true e =
        exact_first IsLexeme around (λ d. X d scope) (λ d. Y d scope) (t ∷ ts)
        (λ run left f long. none_of_second (λ d. Y d scope) (λ d. y_not_empty d (all_at d) scope) t ts
        (λ d w a vs k passes y. both_of_one (Second scope) ts e (passes (λ u. not (Second scope u)) (second_y d (all_at d) scope w a t vs y k h)))
        (rx.ready s g scope t (within shared first_x in_x (terminal_of scope t) h)) run left f long)
        (p (At (t ∷ ts))) (rx.exact s g around scope (t ∷ ts))
    shared_at t ts h false e =
        exact_other IsLexeme around (λ d. X d scope) (λ d. Y d scope) (t ∷ ts)
        (λ run left f long. none_of_second (λ d. X d scope) (λ d. x_not_empty d (all_at d) scope) t ts
        (λ d w a vs k passes x. never (sym e ∙ passes (Second scope) (second_x d (all_at d) scope w a t vs x k h)))
        (ry.ready s g scope t (within shared first_y in_y (terminal_of scope t) h)) run left f long)
        (q (At (t ∷ ts))) (ry.exact s g around scope (t ∷ ts))

    plain_at : (ts : List Token) → begins (Shared scope) ts ≡ false → (b : Bool) → begins (Other scope) ts ≡ b →
        IsExact IsLexeme around (λ d. (X d or Y d) scope) ts (if b then p (At ts) else q (At ts))
    plain_at [] h true e = never e
    plain_at (t ∷ ts) h true e =
        exact_first IsLexeme around (λ d. X d scope) (λ d. Y d scope) (t ∷ ts)
        (λ run left f long. none_of_first (λ d. Y d scope) (λ d. y_not_empty d (all_at d) scope) t ts
        (λ d w a vs k y. elim (in_union shared rest_y (terminal_of scope t) (within first_y (shared ++ rest_y) of_y (terminal_of scope t) (y_head d (all_at d) scope w a t vs k y))) [
          | inl m ↦ never (sym h ∙ m)
          | inr r ↦ disjoint rest_y others against (terminal_of scope t) r e
        ]) run left f)
        (p (At (t ∷ ts))) (rx.exact s g around scope (t ∷ ts))
    plain_at [] h false e =
        exact_other IsLexeme around (λ d. X d scope) (λ d. Y d scope) []
        (λ run left f long. none_of_none (λ d. X d scope) (λ d. x_not_empty d (all_at d) scope) run left f)
        (q (At [])) (ry.exact s g around scope [])
    plain_at (t ∷ ts) h false e =
        exact_other IsLexeme around (λ d. X d scope) (λ d. Y d scope) (t ∷ ts)
        (λ run left f long. none_of_first (λ d. X d scope) (λ d. x_not_empty d (all_at d) scope) t ts
        (λ d w a vs k x. elim (in_union shared others (terminal_of scope t) (within first_x (shared ++ others) of_x (terminal_of scope t) (x_head d (all_at d) scope w a t vs k x))) [
          | inl m ↦ never (sym h ∙ m)
          | inr o ↦ never (sym e ∙ o)
        ]) run left f)
        (q (At (t ∷ ts))) (ry.exact s g around scope (t ∷ ts))

    exact_at : (ts : List Token) (b : Bool) → begins (Shared scope) ts ≡ b →
        IsExact IsLexeme around (λ d. (X d or Y d) scope) ts
        (if b then (if begins_second (Second scope) ts then p (At ts) else q (At ts)) else (if begins (Other scope) ts then p (At ts) else q (At ts)))
    exact_at [] true e = never e
    exact_at (t ∷ ts) true e = shared_at t ts e (begins (Second scope) ts) refl
    exact_at ts false e = plain_at ts e (begins (Other scope) ts) refl

  pub read_by_second : IsReadBy terminal_of IsLexeme stage given (λ d. X d or Y d) (by_second terminal_of shared seconds others p q) no (first_x ++ first_y) last
  read_by_second =
      read_apart rx ry xy yx last (λ a. within_itself (last a)) (λ a. within_itself (last a)) (by_second terminal_of shared seconds others p q)
      (λ s g around scope ts. exact_at s g around scope ts (begins (Shared scope) ts) refl)
