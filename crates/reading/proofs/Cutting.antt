-- Two ways to cut one list.

use Rattle.std.proofs.Common.{◌≡◌, List, [], ◌∷◌, ◌++◌, refl, sym, ap}
use Rattle.reading.specs.Languages.{Leveled, tokens_of}

module _ {Token : Type 0} where
  -- The first front is the second, or begins it, or goes on behind it.
  pub data Cut (a b c d : List Token) : Type 0 where
    equal : a ≡ c → b ≡ d → Cut a b c d
    earlier : (t : Token) (r : List Token) → c ≡ a ++ t ∷ r → b ≡ t ∷ (r ++ d) → Cut a b c d
    later : (t : Token) (r : List Token) → a ≡ c ++ t ∷ r → d ≡ t ∷ (r ++ b) → Cut a b c d

  cons_cut : (x y : Token) (a b c d : List Token) → x ≡ y → Cut a b c d → Cut (x ∷ a) b (y ∷ c) d
  cons_cut x y a b c d h (equal p q) = equal (cc) q
  cons_cut x y a b c d h (earlier t r p q) = earlier t r (cc) q
  cons_cut x y a b c d h (later t r p q) = later t r (cc) q

  pub cut : (a b c d : List Token) → a ++ b ≡ c ++ d → Cut a b c d
  cut [] b [] d e = equal refl e
  cut [] b (y ∷ c) d e = earlier y c refl e
  cut (x ∷ a) b [] d e = later x a refl (sym e)
  cut (x ∷ a) b (y ∷ c) d e = cons_cut x y a b c d (cc) (cut a b c d (cc))

  pub tokens_append : (v w : List (Leveled Token)) → tokens_of (v ++ w) ≡ tokens_of v ++ tokens_of w
  tokens_append [] w = refl
  tokens_append (s ∷ v) w = ap (λ (ts : List Token). s.0 ∷ ts) (tokens_append v w)

  pub tokens_none : (w : List (Leveled Token)) → tokens_of w ≡ [] → w ≡ []
  tokens_none [] e = refl
  tokens_none (s ∷ w) e = cc

  pub head_is : {x y : Token} {u v : List Token} → x ∷ u ≡ y ∷ v → x ≡ y
  head_is e = cc

  -- The head of a list does not depend on its end.
  pub same_head : (x m us r : List Token) (t s : Token) → x ++ t ∷ m ≡ s ∷ r →
      (q : List Token) × (x ++ t ∷ us ≡ s ∷ q)
  same_head [] m us r t s e = (us, let h : t ≡ s = cc in cc)
  same_head (y ∷ x) m us r t s e = (x ++ t ∷ us, let h : y ≡ s = cc in cc)

  pub early_head : (x z r : List Token) (s : Token) → x ≡ s ∷ r →
      (q : List Token) × (x ++ z ≡ s ∷ q)
  early_head [] z r s e = absurd (cc)
  early_head (y ∷ x) z r s e = (x ++ z, let h : y ≡ s = cc in cc)
