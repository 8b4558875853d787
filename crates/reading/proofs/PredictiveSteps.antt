-- Any number of steps, each of which is predictive. Which tokens begin one may depend on what was
-- read before.

use Rattle.std.proofs.Common.{◌≡◌, inl, inr, ℕ, zero, suc, Bool, true, false, List, [], ◌∷◌, ◌++◌, refl, sym, subst}
use Rattle.reading.specs.Languages.{Language, empty_word, sequence, steps}
use Rattle.reading.proofs.Sets.{never}
use Rattle.reading.proofs.Predictive.{IsPredictive, predictive_empty, predictive_weaker}
use Rattle.reading.proofs.PredictiveThen.{predictive_then}
use Rattle.reading.proofs.PredictiveEither.{predictive_either}

no_parts : {A : Type 0} (v w : List A) → [] ≡ v ++ w → v ≡ []
no_parts [] w e = refl
no_parts (z ∷ v) w e = absurd (cc)

-- Steps that take nothing are none, where no step takes nothing.
pub no_steps : {Token S : Type 0} (step : S → Language Token S) → ((s r : S) → step s [] r → ⊥) → (n : ℕ) (s r : S) → steps n step s [] r → r ≡ s
unfolding steps
no_steps step some zero s r x = x.same
no_steps step some (suc n) s r (inl x) = absurd (some s x.value (subst (λ v. step s v x.value) (no_parts x.front x.back x.split) x.begin))
no_steps step some (suc n) s r (inr x) = x.same

module _ {Token S : Type 0} (step step' : S → Language Token S) (go last last' : S → Token → Bool)
    (p : (s : S) → IsPredictive (step s) (step' s) false (go s) last)
    (apart : (s : S) (c : Token) → last s c ≡ true → go s c ≡ true → ⊥)
    (lasts : (s : S) (c : Token) → last s c ≡ true → last' s c ≡ true)
    (goes : (s : S) (c : Token) → go s c ≡ true → last' s c ≡ true) where
  nothing : (n : ℕ) (s r : S) → steps n step s [] r → r ≡ s
  nothing = no_steps step (λ s r x. never ((p s).nullable r x))

  pub predictive_step : (n : ℕ) (s : S) →
      ((r : S) → IsPredictive (steps n step r) (steps (suc n) step' r) true (go r) last') →
      IsPredictive (sequence (step s) (steps n step)) (sequence (step' s) (steps (suc n) step')) false (go s) last'
  predictive_step n s rest =
      predictive_then (step s) (step' s) (steps n step) (steps (suc n) step') false (go s) last (λ r. true) go last' (p s) rest apart
      false (go s) last' (λ r e f. e) (λ c e. e) (λ r x c f. never ((p s).nullable r x)) (λ r c e. e)
      (λ r r' g c f. lasts r' c (subst (λ z. last z c ≡ true) (sym (nothing n r r' g)) f))

  pub predictive_steps : (n : ℕ) (s : S) → IsPredictive (steps n step s) (steps (suc n) step' s) true (go s) last'
  unfolding steps
  predictive_steps zero s = predictive_weaker (predictive_empty s) (λ w a x. inr x) (λ e. e) (λ c e. never e) (λ a c e. never e)
  predictive_steps (suc n) s =
      predictive_either (sequence (step s) (steps n step)) (sequence (step' s) (steps (suc n) step')) (empty_word s) (empty_word s) true (go s) (λ c. false) last' (λ r c. false)
      (predictive_step n s (predictive_steps n)) (predictive_empty s) (λ c e f. never f)
      (go s) last' (λ c e. e) (λ c e. never e) (λ r c e. e) (λ r c e. never e)
      (λ r y c f. goes r c (subst (λ z. go z c ≡ true) (sym y.same) f))
