-- One part or the other, where each is predictive, the first is not nullable, and the first token
-- decides.

use Rattle.std.proofs.Common.{◌≡◌, inl, inr, Bool, true, false, List, [], ◌∷◌, ◌++◌, sym, ◌∙◌, subst, append-nil}
use Rattle.reading.specs.Languages.{Leveled, Language, tokens_of, either}
use Rattle.reading.proofs.Sets.{never}
use Rattle.reading.proofs.Cutting.{head_is}
use Rattle.reading.proofs.Predictive.{IsPredictive}

module _ {Token A : Type 0} (X X' Y Y' : Language Token A) (null_y : Bool)
    (first_x first_y : Token → Bool) (last_x last_y : A → Token → Bool)
    (px : IsPredictive X X' false first_x last_x) (py : IsPredictive Y Y' null_y first_y last_y)
    (apart : (c : Token) → first_x c ≡ true → first_y c ≡ true → ⊥) where
  -- No word of the second goes on behind one of the first, nor the other way round.
  clash : (v w : List (Leveled Token)) (a b : A) (u : List Token) → tokens_of w ≡ tokens_of v ++ u → X v a → Y w b → ⊥
  clash [] w a b u e x y = never (px.nullable a x)
  clash (s ∷ v) [] a b u e x y = absurd (cc)
  clash (s ∷ v) (z ∷ w) a b u e x y = apart s.0 (px.begins s v a x) (subst (λ t. first_y t ≡ true) (head_is e) (py.begins z w b y))

  clash_back : (s : Leveled Token) (v w : List (Leveled Token)) (a b : A) (u : List Token) →
      tokens_of w ≡ tokens_of (s ∷ v) ++ u → Y (s ∷ v) a → X w b → ⊥
  clash_back s v [] a b u e y x = absurd (cc)
  clash_back s v (z ∷ w) a b u e y x = apart s.0 (subst (λ t. first_x t ≡ true) (head_is e) (px.begins z w b x)) (py.begins s v a y)

  pub predictive_either : (first' : Token → Bool) (last' : A → Token → Bool) →
      ((c : Token) → first_x c ≡ true → first' c ≡ true) → ((c : Token) → first_y c ≡ true → first' c ≡ true) →
      ((a : A) (c : Token) → last_x a c ≡ true → last' a c ≡ true) →
      ((a : A) (c : Token) → last_y a c ≡ true → last' a c ≡ true) →
      ((a : A) → Y [] a → (c : Token) → first_x c ≡ true → last' a c ≡ true) →
      IsPredictive (either X Y) (either X' Y') null_y first' last'
  predictive_either first' last' fx fy lx ly ln = record {
    grows = λ w a z. elim z [ inl x ↦ inl (px.grows w a x) | inr y ↦ inr (py.grows w a y) ];
    nullable = λ a z. elim z [ inl x ↦ never (px.nullable a x) | inr y ↦ py.nullable a y ];
    begins = λ s w a z. elim z [ inl x ↦ fx _ (px.begins s w a x) | inr y ↦ fy _ (py.begins s w a y) ];
    follows = on;
    unambiguous = same;
  }
    where
      from_y : (v w : List (Leveled Token)) (t : Token) (u : List Token) (a b : A) →
          tokens_of w ≡ tokens_of v ++ t ∷ u → Y v a → X w b → last' a t ≡ true
      from_y [] [] t u a b e y x = absurd (cc)
      from_y [] (z ∷ w) t u a b e y x = ln a y _ (subst (λ m. first_x m ≡ true) (head_is e) (px.begins z w b x))
      from_y (s ∷ v) w t u a b e y x = absurd (clash_back s v w a b (t ∷ u) e y x)

      on : (v w : List (Leveled Token)) (t : Token) (u : List Token) (a b : A) →
          tokens_of w ≡ tokens_of v ++ t ∷ u → either X Y v a → either X Y w b → last' a t ≡ true
      on v w t u a b e (inl x) (inl x') = lx a _ (px.follows v w t u a b e x x')
      on v w t u a b e (inl x) (inr y) = absurd (clash v w a b (t ∷ u) e x y)
      on v w t u a b e (inr y) (inl x) = from_y v w t u a b e y x
      on v w t u a b e (inr y) (inr y') = ly a _ (py.follows v w t u a b e y y')

      same : (v w : List (Leveled Token)) (a b : A) → tokens_of v ≡ tokens_of w → either X Y v a → either X Y w b → a ≡ b
      same v w a b e (inl x) (inl x') = px.unambiguous v w a b e x x'
      same v w a b e (inl x) (inr y) = absurd (clash v w a b [] (sym e ∙ sym (append-nil (tokens_of v))) x y)
      same v w a b e (inr y) (inl x) = absurd (clash w v b a [] (e ∙ sym (append-nil (tokens_of w))) x y)
      same v w a b e (inr y) (inr y') = py.unambiguous v w a b e y y'
