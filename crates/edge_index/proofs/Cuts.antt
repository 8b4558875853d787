-- Lists cut by a key: what passes one of two tests, and the rows of a list whose keys rise.
use Rattle.std.proofs.Common.{◌≡◌, ℕ, zero, suc, ◌+◌, ◌-◌, ◌<◌, ◌≤◌, ◌==◌, ◌&&◌, Bool, true, false, not, cond, nat_lt, List, [], ◌∷◌, ◌++◌, filter, length, map, take, drop, refl, ap, sym, subst, ◌∙◌, arith, eq-eqb}
use borrow.Author.Tests.{ltb-true, ltb-false, eqb-true, eqb-false, ne_eqb, lt-ltb, le-ltb}
use Rattle.std.specs.List.{All}
use Rattle.std.specs.List.Sorted.{IsNonDecreasingBy, IsPermutation}
use Rattle.std.proofs.lemmas.List.{take_at, drop_at, append_assoc}
use Rattle.std.proofs.lemmas.List.Elements.{All-nil, All-cons, All-head, All-tail}
use Rattle.std.proofs.lemmas.List.Sorted.{IsPermutation-refl, IsPermutation-cons, IsPermutation-sym, IsPermutation-trans, IsPermutation-middle, IsPermutation-append_left, sum_by-IsPermutation}
use Rattle.std.proofs.lemmas.List.Sums.{length-filter}

module _ {X : Type 0} where
  -- as many pass of a list in another order
  pub length-filter-permutation : (p : X → Bool) (xs ys : List X) → IsPermutation xs ys → length (filter p ys) ≡ length (filter p xs)
  length-filter-permutation p xs ys same =
      length-filter p ys ∙ (sum_by-IsPermutation (λ x. cond (p x) 1 0) xs ys same ∙ sym (length-filter p xs))

  -- what passes two tests
  pub filter-filter : (p q : X → Bool) (xs : List X) → filter q (filter p xs) ≡ filter (λ x. p x && q x) xs
  filter-filter p q [] = refl
  filter-filter p q (x ∷ xs) = by (p x) (filter-filter p q xs)
    where
      by : (b : Bool) → filter q (filter p xs) ≡ filter (λ x. p x && q x) xs →
          filter q (cond b (x ∷ filter p xs) (filter p xs)) ≡ cond (b && q x) (x ∷ filter (λ x. p x && q x) xs) (filter (λ x. p x && q x) xs)
      by true rest = ap (λ (ys : List X). cond (q x) (x ∷ ys) ys) rest
      by false rest = rest

  -- a test of what is shown
  pub filter-map : {Y : Type 0} (f : X → Y) (p : Y → Bool) (xs : List X) → filter p (map f xs) ≡ map f (filter (λ x. p (f x)) xs)
  filter-map f p [] = refl
  filter-map {Y} f p (x ∷ xs) = by (p (f x)) (filter-map f p xs)
    where
      by : (b : Bool) → filter p (map f xs) ≡ map f (filter (λ x. p (f x)) xs) →
          cond b (f x ∷ filter p (map f xs)) (filter p (map f xs)) ≡ map f (cond b (x ∷ filter (λ x. p (f x)) xs) (filter (λ x. p (f x)) xs))
      by true rest = ap (λ (ys : List Y). f x ∷ ys) rest
      by false rest = rest

  -- all pass
  pub filter_whole : (p : X → Bool) (xs : List X) → All (λ (x : X). p x ≡ true) xs → filter p xs ≡ xs
  filter_whole p [] all = refl
  filter_whole p (x ∷ xs) all =
      ap (λ b. cond b (x ∷ filter p xs) (filter p xs)) (All-head (λ (x : X). p x ≡ true) x xs all) ∙
      ap (λ (ys : List X). x ∷ ys) (filter_whole p xs (All-tail (λ (x : X). p x ≡ true) x xs all))

-- A test passes what one of two others passes, and no item passes both.
data Parts : Bool → Bool → Bool → Type 0 where
  first : Parts true true false
  second : Parts true false true
  neither : Parts false false false

module _ {X : Type 0} (key : X → ℕ) where
  -- the items whose keys are less than k, and those whose key it is
  abbrev pub lower : ℕ → List X → List X
  lower k xs = filter (λ (x : X). nat_lt (key x) k) xs

  abbrev pub at_key : ℕ → List X → List X
  at_key k xs = filter (λ (x : X). key x == k) xs

  -- a key that is less than k + 1 is less than k or is k
  parts : (k : ℕ) (x : X) → Parts (nat_lt (key x) (k + 1)) (nat_lt (key x) k) (key x == k)
  parts k x = by (nat_lt (key x) k) refl (key x == k) refl
    where
      by : (c : Bool) → nat_lt (key x) k ≡ c → (d : Bool) → (key x == k) ≡ d → Parts (nat_lt (key x) (k + 1)) c d
      by true low true at =
          let less = ltb-true (key x) k low in
          let is = eqb-true (key x) k at in
          absurd (omega arith)
      by true low false at =
          let less = ltb-true (key x) k low in
          subst (λ (b : Bool). Parts b true false) (sym (lt-ltb (key x) (k + 1) (omega arith))) first
      by false low true at =
          let is = eqb-true (key x) k at in
          subst (λ (b : Bool). Parts b false true) (sym (lt-ltb (key x) (k + 1) (omega arith))) second
      by false low false at =
          let not_less = ltb-false (key x) k low in
          let isnt = eqb-false (key x) k at in
          subst (λ (b : Bool). Parts b false false) (sym (le-ltb (key x) (k + 1) (omega arith))) neither

  -- so the items with such keys are those of the two tests, in another order
  lower_more_permutation : (k : ℕ) (xs : List X) → IsPermutation (lower (k + 1) xs) (lower k xs ++ at_key k xs)
  lower_more_permutation k [] = IsPermutation-refl []
  lower_more_permutation k (x ∷ xs) = by (nat_lt (key x) (k + 1)) (nat_lt (key x) k) (key x == k) (parts k x) (lower_more_permutation k xs)
    where
      by : (b c d : Bool) → Parts b c d → IsPermutation (lower (k + 1) xs) (lower k xs ++ at_key k xs) →
          IsPermutation (cond b (x ∷ lower (k + 1) xs) (lower (k + 1) xs)) (cond c (x ∷ lower k xs) (lower k xs) ++ cond d (x ∷ at_key k xs) (at_key k xs))
      by true true false first rest = IsPermutation-cons x _ _ rest
      by true false true second rest =
          IsPermutation-trans _ (x ∷ (lower k xs ++ at_key k xs)) _ (IsPermutation-cons x _ _ rest)
          (IsPermutation-sym _ _ (IsPermutation-middle (lower k xs) x (at_key k xs)))
      by false false false neither rest = rest
      by false false true p rest = elim p [ ]
      by false true d p rest = elim p [ ]
      by true false false p rest = elim p [ ]
      by true true true p rest = elim p [ ]

  -- the rest of a list whose keys rise has keys that rise
  rising_tail : (x : X) (xs : List X) → IsNonDecreasingBy key (x ∷ xs) → IsNonDecreasingBy key xs
  rising_tail x xs up i j d le within = up (suc i) (suc j) d (omega arith) (omega arith)

  -- where the first key is no less than k, none is
  none_lower : (k : ℕ) (x : X) (xs : List X) → IsNonDecreasingBy key (x ∷ xs) → k ≤ key x → lower k xs ≡ []
  none_lower k x [] up le = refl
  none_lower k x (y ∷ ys) up le =
      let rises : key x ≤ key y = up 0 1 x (omega arith) (omega arith) in
      ap (λ b. cond b (y ∷ lower k ys) (lower k ys)) (le-ltb (key y) k (omega arith)) ∙
      none_lower k y ys (rising_tail x (y ∷ ys) up) (omega arith)

  -- where keys rise, they stand one after another
  pub lower_more : (k : ℕ) (xs : List X) → IsNonDecreasingBy key xs → lower (k + 1) xs ≡ lower k xs ++ at_key k xs
  lower_more k [] up = refl
  lower_more k (x ∷ xs) up =
      by (nat_lt (key x) (k + 1)) (nat_lt (key x) k) refl (key x == k) (parts k x) (lower_more k xs (rising_tail x xs up))
    where
      by : (b c : Bool) → nat_lt (key x) k ≡ c → (d : Bool) → Parts b c d → lower (k + 1) xs ≡ lower k xs ++ at_key k xs →
          cond b (x ∷ lower (k + 1) xs) (lower (k + 1) xs) ≡ cond c (x ∷ lower k xs) (lower k xs) ++ cond d (x ∷ at_key k xs) (at_key k xs)
      by true true low false first rest = ap (λ (ys : List X). x ∷ ys) rest
      by true false low true second rest =
          let none = none_lower k x xs up (ltb-false (key x) k low) in
          ap (λ (ys : List X). x ∷ ys) (rest ∙ ap (λ (ys : List X). ys ++ at_key k xs) none) ∙
          ap (λ (ys : List X). ys ++ x ∷ at_key k xs) (sym none)
      by false false low false neither rest = rest
      by false false low true p rest = elim p [ ]
      by false true low d p rest = elim p [ ]
      by true false low false p rest = elim p [ ]
      by true true low true p rest = elim p [ ]

  -- and those with lower keys are in front
  front : (k : ℕ) (xs : List X) → IsNonDecreasingBy key xs → (rest : List X) × (xs ≡ lower k xs ++ rest)
  front k [] up = ([], refl)
  front k (x ∷ xs) up = by (nat_lt (key x) k) refl (front k xs (rising_tail x xs up))
    where
      by : (c : Bool) → nat_lt (key x) k ≡ c → (rest : List X) × (xs ≡ lower k xs ++ rest) →
          (rest : List X) × (x ∷ xs ≡ cond c (x ∷ lower k xs) (lower k xs) ++ rest)
      by true low r = (r.0, ap (λ (ys : List X). x ∷ ys) r.1)
      by false low r = (x ∷ xs, ap (λ (ys : List X). ys ++ x ∷ xs) (sym (none_lower k x xs up (ltb-false (key x) k low))))

  -- the part of a list whose keys rise that has one key
  pub part_at : (k : ℕ) (xs : List X) → IsNonDecreasingBy key xs → take (length (at_key k xs)) (drop (length (lower k xs)) xs) ≡ at_key k xs
  part_at k xs up =
      let r = front (k + 1) xs up in
      let whole : xs ≡ lower k xs ++ (at_key k xs ++ r.0) =
      r.1 ∙ (ap (λ (ys : List X). ys ++ r.0) (lower_more k xs up) ∙ append_assoc (lower k xs) (at_key k xs) r.0) in
      let behind : drop (length (lower k xs)) xs ≡ at_key k xs ++ r.0 =
      ap (drop (length (lower k xs))) whole ∙ drop_at (lower k xs) (at_key k xs ++ r.0) (length (lower k xs)) refl in
      ap (take (length (at_key k xs))) behind ∙ take_at (at_key k xs) r.0 (length (at_key k xs)) refl

  -- the items with key 0, with key 1, and so on below k
  unfoldable pub grouped_by : ℕ → List X → List X
  grouped_by zero xs = []
  grouped_by (suc k) xs = grouped_by k xs ++ at_key k xs

  -- no key is less than 0
  none_below : (xs : List X) → lower 0 xs ≡ []
  none_below [] = refl
  none_below (x ∷ xs) = ap (λ b. cond b (x ∷ lower 0 xs) (lower 0 xs)) (le-ltb (key x) 0 (omega arith)) ∙ none_below xs

  grouped_by_lower : (k : ℕ) (xs : List X) → IsPermutation (lower k xs) (grouped_by k xs)
  unfolding grouped_by
  grouped_by_lower zero xs = rw none_below (IsPermutation-refl [])
  grouped_by_lower (suc k) xs =
      let next : k + 1 ≡ suc k = omega arith in
      subst (λ (n : ℕ). IsPermutation (lower n xs) (grouped_by k xs ++ at_key k xs)) next
      (IsPermutation-trans _ (lower k xs ++ at_key k xs) _ (lower_more_permutation k xs)
      (IsPermutation-append_left (at_key k xs) _ _ (grouped_by_lower k xs)))

  pub all_lower : (k : ℕ) (xs : List X) → All (λ (x : X). key x < k) xs → lower k xs ≡ xs
  all_lower k [] all = refl
  all_lower k (x ∷ xs) all =
      ap (λ b. cond b (x ∷ lower k xs) (lower k xs)) (lt-ltb (key x) k (All-head (λ (x : X). key x < k) x xs all)) ∙
      ap (λ (ys : List X). x ∷ ys) (all_lower k xs (All-tail (λ (x : X). key x < k) x xs all))

  -- all items are there where all keys are below k
  pub grouped_by_permutation : (k : ℕ) (xs : List X) → All (λ (x : X). key x < k) xs → IsPermutation xs (grouped_by k xs)
  grouped_by_permutation k xs all = subst (λ (ys : List X). IsPermutation ys (grouped_by k xs)) (all_lower k xs all) (grouped_by_lower k xs)

  grouped_by_rising : (k : ℕ) (xs : List X) → IsNonDecreasingBy key xs → grouped_by k xs ≡ lower k xs
  unfolding grouped_by
  grouped_by_rising zero xs up = sym (none_below xs)
  grouped_by_rising (suc k) xs up =
      let next : k + 1 ≡ suc k = omega arith in
      subst (λ (n : ℕ). grouped_by k xs ++ at_key k xs ≡ lower n xs) next
      (ap (λ (ys : List X). ys ++ at_key k xs) (grouped_by_rising k xs up) ∙ sym (lower_more k xs up))

  -- and they stand so already where keys rise
  pub grouped_by_same : (k : ℕ) (xs : List X) → IsNonDecreasingBy key xs → All (λ (x : X). key x < k) xs → grouped_by k xs ≡ xs
  grouped_by_same k xs up all = grouped_by_rising k xs up ∙ all_lower k xs all
