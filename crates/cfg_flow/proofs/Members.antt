-- Membership by recursion, and by position.
use Rattle.std.proofs.Common.{zero, suc, ◌≡◌, ◌↔◌, ◌⊎◌, inl, inr, List, [], ◌∷◌, ◌++◌, refl, arith}
use Rattle.std.specs.List.{Contains}
use Rattle.std.specs.List.Sorted.{IsPermutation}
use Rattle.std.proofs.lemmas.List.Sorted.{Contains-permutation, IsPermutation-sym}
use Rattle.cfg_rules.specs.Member.{IsIn}

pub is_in : {X : Type 0} (xs : List X) (x : X) → Contains xs x → IsIn xs x
unfolding IsIn
is_in [] x (k, low, e) = absurd (omega arith)
is_in (y ∷ ys) x (zero, low, e) = inl e
is_in (y ∷ ys) x (suc k, low, e) = inr (is_in ys x (k, omega arith, e))

pub contains : {X : Type 0} (xs : List X) (x : X) → IsIn xs x → Contains xs x
unfolding IsIn
contains [] x m = absurd m
contains (y ∷ ys) x (inl e) = (0, omega arith, e)
contains (y ∷ ys) x (inr m) = more (contains ys x m) where
  more : Contains ys x → Contains (y ∷ ys) x
  more (k, low, e) = (suc k, omega arith, e)

pub moved : {X : Type 0} (xs ys : List X) (x : X) → IsPermutation xs ys → IsIn xs x → IsIn ys x
moved xs ys x p m = is_in ys x (Contains-permutation xs ys x p (contains xs x m))

pub moved_back : {X : Type 0} (xs ys : List X) (x : X) → IsPermutation xs ys → IsIn ys x → IsIn xs x
moved_back xs ys x p m = moved ys xs x (IsPermutation-sym xs ys p) m

pub in_append : {X : Type 0} (xs ys : List X) (x : X) → IsIn (xs ++ ys) x ↔ (IsIn xs x ⊎ IsIn ys x)
unfolding IsIn
in_append [] ys x = (λ m. inr m, elim [ inl n ↦ absurd n | inr m ↦ m ])
in_append (z ∷ zs) ys x =
    let rest : IsIn (zs ++ ys) x ↔ (IsIn zs x ⊎ IsIn ys x) = in_append zs ys x in (
      elim [ inl e ↦ inl (inl e) | inr m ↦ elim (rest.0 m) [ inl n ↦ inl (inr n) | inr n ↦ inr n ] ],
      elim [ inl l ↦ elim l [ inl e ↦ inl e | inr n ↦ inr (rest.1 (inl n)) ] | inr n ↦ inr (rest.1 (inr n)) ],
    )

pub in_one : {X : Type 0} (y x : X) → IsIn (y ∷ []) x → y ≡ x
unfolding IsIn
in_one y x (inl e) = e
in_one y x (inr n) = absurd n

pub one_in : {X : Type 0} (x : X) → IsIn (x ∷ []) x
unfolding IsIn
one_in x = inl refl

pub none_in : {X : Type 0} (xs : List X) (x : X) → xs ≡ [] → ¬ (IsIn xs x)
unfolding IsIn
none_in [] x e m = m
none_in (y ∷ ys) x e m = cc
