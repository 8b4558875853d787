-- Sums over the views of all seats.
use Rattle.std.proofs.Common.{◌≡◌, ℕ, zero, suc, ◌+◌, ◌≤◌, ◌<◌, List, [], ◌∷◌, ◌++◌, set, length, Option, Some, None, sym, refl, ap, arith, sum_by}
use Rattle.std.proofs.lemmas.List.Sums.{sum_by-cons, sum_by-append}
use mathlib.Core.Option.{some, some-injective, some-ne-none}
use lib.ListN.{get_elem?}
use Rattle.turn_lock.specs.declared.view.View.{View}
use Rattle.turn_lock.specs.Views.{one_if_some, shares_in, tickets_in}

pub in_range : {A : Type 0} (l : List A) (i : ℕ) (a : A) → get_elem? l i ≡ some a → i < length l
in_range [] i a e = absurd (some-ne-none a (sym e))
in_range (x ∷ xs) zero a e = omega arith
in_range (x ∷ xs) (suc i) a e = let k = in_range xs i a e in omega arith

one_at_most : (o : Option ℕ) → one_if_some o ≤ 1
one_at_most None = omega arith
one_at_most (Some t) = omega arith

module _ {A : Type 0} (f : A → ℕ) where
  -- A sum after a change of one view.
  pub sum_set : (l : List A) (i : ℕ) (v w : A) → get_elem? l i ≡ some v → sum_by f (set l i w) + f v ≡ sum_by f l + f w
  sum_set [] i v w e = absurd (some-ne-none v (sym e))
  sum_set (x ∷ xs) zero v w e =
      let is : f x ≡ f v = ap f (some-injective x v e) in
      omega (arith, is, sum_by-cons f x xs, sum_by-cons f w xs)
  sum_set (x ∷ xs) (suc i) v w e =
      let r = sum_set xs i v w e in
      omega (arith, r, sum_by-cons f x xs, sum_by-cons f x (set xs i w))

  -- A sum after one view more.
  pub sum_snoc : (l : List A) (v : A) → sum_by f (l ++ v ∷ []) ≡ sum_by f l + f v
  sum_snoc l v = omega (arith, sum_by-append f l (v ∷ []), sum_by-cons f v [])

  pub part_of : (l : List A) (i : ℕ) (v : A) → get_elem? l i ≡ some v → f v ≤ sum_by f l
  part_of [] i v e = absurd (some-ne-none v (sym e))
  part_of (x ∷ xs) zero v e = let is : f x ≡ f v = ap f (some-injective x v e) in omega (arith, is, sum_by-cons f x xs)
  part_of (x ∷ xs) (suc i) v e = let r = part_of xs i v e in omega (arith, r, sum_by-cons f x xs)

module _ {T E : Type 0} where
  -- Each seat that was not joined to another has a share.
  abbrev pub Shared : List (Option (View T E)) → Type 0
  Shared vs = (i : ℕ) (v : View T E) → get_elem? vs i ≡ some (Some v) → 1 ≤ v.shares

  -- Where no share is left, each seat was joined to another.
  none_left : (f : Option (View T E) → ℕ) → f None ≡ 0 → (l : List (Option (View T E))) → Shared l → sum_by shares_in l ≡ 0 → sum_by f l ≡ 0
  none_left f z [] h e = refl
  none_left f z (None ∷ xs) h e =
      let s = sum_by-cons shares_in None xs in
      let r = none_left f z xs (λ i v p. h (suc i) v p) (omega (arith, e, s)) in
      omega (arith, r, z, sum_by-cons f None xs)
  none_left f z (Some v ∷ xs) h e = let k = h 0 v refl in absurd (omega (arith, k, e, sum_by-cons shares_in (Some v) xs))

  -- Who has all shares is the only seat.
  pub only_one : (f : Option (View T E) → ℕ) → f None ≡ 0 → (l : List (Option (View T E))) (i : ℕ) (v : Option (View T E)) → get_elem? l i ≡ some v → Shared l → sum_by shares_in l ≡ shares_in v → sum_by f l ≡ f v
  only_one f z [] i v e h q = absurd (some-ne-none v (sym e))
  only_one f z (x ∷ xs) zero v e h q =
      let is = some-injective x v e in
      let a : f x ≡ f v = ap f is in
      let b : shares_in x ≡ shares_in v = ap shares_in is in
      let s = sum_by-cons shares_in x xs in
      let r = none_left f z xs (λ i w p. h (suc i) w p) (omega (arith, b, q, s)) in
      omega (arith, a, r, sum_by-cons f x xs)
  only_one f z (None ∷ xs) (suc i) v e h q =
      let s = sum_by-cons shares_in None xs in
      let r = only_one f z xs i v e (λ j w p. h (suc j) w p) (omega (arith, q, s)) in
      omega (arith, r, z, sum_by-cons f None xs)
  only_one f z (Some u ∷ xs) (suc i) v e h q =
      let k = h 0 u refl in
      let s = sum_by-cons shares_in (Some u) xs in
      let p = part_of shares_in xs i v e in
      absurd (omega (arith, k, s, p, q))

  -- There are at most as many tickets as shares.
  pub tickets_few : (l : List (Option (View T E))) → Shared l → sum_by tickets_in l ≤ sum_by shares_in l
  tickets_few [] h = omega arith
  tickets_few (None ∷ xs) h =
      let b = tickets_few xs (λ i v e. h (suc i) v e) in
      omega (arith, b, sum_by-cons tickets_in None xs, sum_by-cons shares_in None xs)
  tickets_few (Some v ∷ xs) h =
      let a = one_at_most v.ticket in
      let k = h 0 v refl in
      let b = tickets_few xs (λ i v e. h (suc i) v e) in
      omega (arith, a, k, b, sum_by-cons tickets_in (Some v) xs, sum_by-cons shares_in (Some v) xs)
