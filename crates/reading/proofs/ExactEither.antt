-- One part or the other, chosen by the next token, is read exactly where each is.

use Rattle.std.proofs.Common.{◌≡◌, inl, inr, ℕ, suc, Bool, true, false, List, [], ◌∷◌, ◌++◌, sym, ◌∙◌, subst}
use Rattle.reading.specs.Languages.{Leveled, tokens_of, either}
use Rattle.reading.specs.Readers.{Outcome, begins}
use Rattle.reading.specs.Exact.{Family, AreNoWord, IsLongest, IsExact, reads, refuses, is_too_deep}
use Rattle.reading.proofs.Sets.{never}
use Rattle.reading.proofs.Cutting.{tokens_none}
use Rattle.reading.proofs.Predictive.{IsPredictive, head_fits}
use Rattle.reading.proofs.Words.{Ready}

-- Exactness is the same for families that have the same words.
pub exact_same : {Token Scope Around A : Type 0} {IsLexeme : Token → Type 0} {around : Around} (X Y : Family Token (A × Scope)) →
    ((d : ℕ) (w : List (Leveled Token)) (a : A × Scope) → X d w a → (e : ℕ) × Y e w a) →
    ((d : ℕ) (w : List (Leveled Token)) (a : A × Scope) → Y d w a → (e : ℕ) × X e w a) →
    (ts : List Token) (o : Outcome Token Scope Around A) → IsExact IsLexeme around X ts o → IsExact IsLexeme around Y ts o
exact_same X Y to from ts o (reads run left d a sc e sh x long) =
    let y = to d run (a, sc) x in
    reads run left y.0 a sc e sh y.1 (λ t us more h n w b g k. let z = from n w b k in long t us more h z.0 w b g z.1)
exact_same X Y to from ts o (refuses run more left d a sc e sh lex x long none) =
    let y = to d (run ++ more) a x in
    refuses run more left y.0 a sc e sh lex y.1 (λ t us m h n w b g k. let z = from n w b k in long t us m h z.0 w b g z.1)
    (λ n w b g k. let z = from n w b k in none z.0 w b g z.1)
exact_same X Y to from ts o (is_too_deep run more t level left d a sc e sh k lex x) =
    let y = to d (run ++ (t, level) ∷ more) a x in is_too_deep run more t level left y.0 a sc e sh k lex y.1

module _ {Token Scope Around A : Type 0} (IsLexeme : Token → Type 0) (around : Around) (X Y : Family Token (A × Scope)) (null_y : Bool)
    (first_x first_y : Token → Bool) (last_x last_y : A × Scope → Token → Bool)
    (px : (d : ℕ) → IsPredictive (X d) (X (suc d)) false first_x last_x)
    (py : (d : ℕ) → IsPredictive (Y d) (Y (suc d)) null_y first_y last_y) (test : Token → Bool) where
  abbrev Or : Family Token (A × Scope)
  Or d = either (X d) (Y d)

  -- The next token passes the test, and the second part does not begin with it. Where the second part
  -- may be empty, the first can begin with the token.
  module _ (apart : (t : Token) → first_y t ≡ true → test t ≡ true → ⊥) (t : Token) (ts : List Token) (is : test t ≡ true)
      (ready : null_y ≡ true → Ready X t) where
    no_y : (d : ℕ) (w : List (Leveled Token)) (a : A × Scope) (r : List Token) → tokens_of w ≡ t ∷ r → Y d w a → ⊥
    no_y d w a r e y = apart t (head_fits (py d) w a t r e y) is

    longest_left : (run : List (Leveled Token)) (left : List Token) → t ∷ ts ≡ tokens_of run ++ left → IsLongest X run left → IsLongest Or run left
    longest_left run left e long s us more h d w b g (inl x) = long s us more h d w b g x
    longest_left [] left e long s us more h d w b g (inr y) = no_y d w b more (g ∙ (let k : t ≡ s = cc in cc)) y
    longest_left (z ∷ run) left e long s us more h d w b g (inr y) = no_y d w b (tokens_of run ++ s ∷ more) (g ∙ (let k : t ≡ z.0 = cc in cc)) y

    -- The empty run is no word of the first part. It is viable, and so not the longest viable run.
    none_left : (run : List (Leveled Token)) (left : List Token) → t ∷ ts ≡ tokens_of run ++ left → IsLongest X run left → AreNoWord X (tokens_of run) → AreNoWord Or (tokens_of run)
    none_left run left e long none d w b g (inl x) = none d w b g x
    none_left [] left e long none d w b g (inr y) =
        let n : null_y ≡ true = (py d).nullable b (subst (λ z. Y d z b) (tokens_none w g) y) in
        let r = ready n in long t ts r.rest (sym e) r.turns r.word r.value r.begins r.is
    none_left (s ∷ run) left e long none d w b g (inr y) =
        no_y d w b (tokens_of run) (g ∙ (let k : t ≡ s.0 = cc in cc)) y

    pub exact_left : (o : Outcome Token Scope Around A) → IsExact IsLexeme around X (t ∷ ts) o → IsExact IsLexeme around Or (t ∷ ts) o
    exact_left o (reads run left d a sc e sh x long) = reads run left d a sc e sh (inl x) (longest_left run left e long)
    exact_left o (refuses run more left d a sc e sh lex x long none) =
        refuses run more left d a sc e sh lex (inl x) (longest_left run left e long) (none_left run left e long none)
    exact_left o (is_too_deep run more s level left d a sc e sh k lex x) = is_too_deep run more s level left d a sc e sh k lex (inl x)

  -- The next token fails the test, and the first part does not begin with it.
  module _ (tests : (t : Token) → first_x t ≡ true → test t ≡ true) (ts : List Token) (is : begins test ts ≡ false) where
    no_x : (d : ℕ) (w : List (Leveled Token)) (a : A × Scope) (t : Token) (r q : List Token) → ts ≡ t ∷ r → tokens_of w ≡ t ∷ q → X d w a → ⊥
    no_x d w a t r q e g x =
        let h : test t ≡ true = tests _ (head_fits (px d) w a t q g x) in
        let k : test t ≡ false = subst (λ z. begins test z ≡ false) e is in
        never (sym k ∙ h)

    longest_right : (run : List (Leveled Token)) (left : List Token) → ts ≡ tokens_of run ++ left → IsLongest Y run left → IsLongest Or run left
    longest_right run left e long s us more h d w b g (inr y) = long s us more h d w b g y
    longest_right [] left e long s us more h d w b g (inl x) = no_x d w b s us more (e ∙ h) g x
    longest_right (z ∷ run) left e long s us more h d w b g (inl x) = no_x d w b z.0 (tokens_of run ++ left) (tokens_of run ++ s ∷ more) e g x

    none_right : (run : List (Leveled Token)) (left : List Token) → ts ≡ tokens_of run ++ left → AreNoWord Y (tokens_of run) → AreNoWord Or (tokens_of run)
    none_right run left e none d w b g (inr y) = none d w b g y
    none_right [] left e none d w b g (inl x) = never ((px d).nullable b (subst (λ z. X d z b) (tokens_none w g) x))
    none_right (z ∷ run) left e none d w b g (inl x) = no_x d w b z.0 (tokens_of run ++ left) (tokens_of run) e g x

    pub exact_right : (o : Outcome Token Scope Around A) → IsExact IsLexeme around Y ts o → IsExact IsLexeme around Or ts o
    exact_right o (reads run left d a sc e sh y long) = reads run left d a sc e sh (inr y) (longest_right run left e long)
    exact_right o (refuses run more left d a sc e sh lex y long none) =
        refuses run more left d a sc e sh lex (inr y) (longest_right run left e long) (none_right run left e none)
    exact_right o (is_too_deep run more s level left d a sc e sh k lex y) = is_too_deep run more s level left d a sc e sh k lex (inr y)
