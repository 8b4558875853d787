-- The test of reaching tells what is reached.
use Rattle.std.proofs.Common.{◌≡◌, inl, inr, Bool, true, List, [], ◌∷◌, refl, sym, ap, subst}
use Rattle.std.specs.Prelude.{◌&&◌}
use Rattle.cfg_rules.specs.Member.{IsIn}
use Rattle.cfg_edges.specs.Reaching.{IsReached, here, on, reaches}
use Rattle.cfg_edges.proofs.Bools.{and_both, both_and, or_either, or_left, or_right}

-- The test of two places tells whether they are one.
pub record TellsSame {X : Type 0} (same : X → X → Bool) : Type 0 where
  pub one : (x : X) → same x x ≡ true
  pub tells : (x y : X) → same x y ≡ true → x ≡ y

reaches_itself : {X : Type 0} (same : X → X → Bool) → TellsSame same → (steps : List (X × X)) (a : X) → reaches same steps a a ≡ true
unfolding reaches
reaches_itself same t [] a = t.one a
reaches_itself same t (s ∷ ss) a = or_left (reaches same ss a a) (reaches same ss a s.0 && reaches same ss s.1 a) (reaches_itself same t ss a)

-- A step on from what is reached.
reaches_on : {X : Type 0} (same : X → X → Bool) → TellsSame same → (steps : List (X × X)) (a p q : X) → reaches same steps a p ≡ true → IsIn steps (p, q) → reaches same steps a q ≡ true
unfolding reaches IsIn
reaches_on same t [] a p q r i = absurd i
reaches_on {X} same t (s ∷ ss) a p q r (inl e) =
    let from : s.0 ≡ p = ap (λ (v : X × X). v.0) e in
    let to : s.1 ≡ q = ap (λ (v : X × X). v.1) e in
    let there : reaches same ss a s.0 ≡ true = elim (or_either (reaches same ss a p) (reaches same ss a s.0 && reaches same ss s.1 p) r) [
      | inl l ↦ subst (λ (v : X). reaches same ss a v ≡ true) (sym from) l
      | inr b ↦ (and_both (reaches same ss a s.0) (reaches same ss s.1 p) b).0
    ] in
    let on : reaches same ss s.1 q ≡ true = subst (λ (v : X). reaches same ss s.1 v ≡ true) to (reaches_itself same t ss s.1) in
    or_right (reaches same ss a q) (reaches same ss a s.0 && reaches same ss s.1 q) (both_and (reaches same ss a s.0) (reaches same ss s.1 q) there on)
reaches_on {X} same t (s ∷ ss) a p q r (inr i) = elim (or_either (reaches same ss a p) (reaches same ss a s.0 && reaches same ss s.1 p) r) [
  | inl l ↦ or_left (reaches same ss a q) (reaches same ss a s.0 && reaches same ss s.1 q) (reaches_on same t ss a p q l i)
  | inr b ↦
      let parts = and_both (reaches same ss a s.0) (reaches same ss s.1 p) b in
      or_right (reaches same ss a q) (reaches same ss a s.0 && reaches same ss s.1 q) (both_and (reaches same ss a s.0) (reaches same ss s.1 q) parts.0 (reaches_on same t ss s.1 p q parts.1 i))
]

pub reaches_all : {X : Type 0} (same : X → X → Bool) → TellsSame same → (steps : List (X × X)) (a b : X) → IsReached steps a b → reaches same steps a b ≡ true
reaches_all same t steps a b here = reaches_itself same t steps a
reaches_all same t steps a b (on p q r i) = reaches_on same t steps a p q (reaches_all same t steps a p r) i

with_more : {X : Type 0} (s : X × X) (steps : List (X × X)) (a b : X) → IsReached steps a b → IsReached (s ∷ steps) a b
unfolding IsIn
with_more s steps a b here = here
with_more s steps a b (on p q r i) = on p q (with_more s steps a p r) (inr i)

joined : {X : Type 0} (steps : List (X × X)) (a p b : X) → IsReached steps a p → IsReached steps p b → IsReached steps a b
joined steps a p b r here = r
joined steps a p b r (on u v s i) = on u v (joined steps a p u r s) i

pub reached : {X : Type 0} (same : X → X → Bool) → TellsSame same → (steps : List (X × X)) (a b : X) → reaches same steps a b ≡ true → IsReached steps a b
unfolding reaches IsIn
reached {X} same t [] a b r = subst (λ (v : X). IsReached [] a v) (t.tells a b r) here
reached same t (s ∷ ss) a b r = elim (or_either (reaches same ss a b) (reaches same ss a s.0 && reaches same ss s.1 b) r) [
  | inl l ↦ with_more s ss a b (reached same t ss a b l)
  | inr c ↦
      let parts = and_both (reaches same ss a s.0) (reaches same ss s.1 b) c in
      joined (s ∷ ss) a s.1 b (on s.0 s.1 (with_more s ss a s.0 (reached same t ss a s.0 parts.0)) (inl refl)) (with_more s ss s.1 b (reached same t ss s.1 b parts.1))
]
