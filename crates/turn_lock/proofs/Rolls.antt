-- What the workers of the client in the tests have added, by the workers that are left to be joined.
use Rattle.std.proofs.Common.{ℕ, suc, ◌≡◌, ◌+◌, ◌<◌, List, [], ◌∷◌, ◌++◌, length, slice_index_or, sum_by, take, ap, refl, arith, ◌∙◌}
use Rattle.std.proofs.Math.Seq.{take-append_seam}
use Rattle.std.proofs.lemmas.List.Sums.{sum_by-append, sum_by-cons, sum_by_push}
use Rattle.turn_lock.specs.declared.view.Positioned.{Positioned}

-- Where two lists are as long and have equal numbers at each position, they weigh the same.
pub sum_by_same : {W : Type 0} (f : W → ℕ) (xs ys : List W) → length ys ≡ length xs → ((k : ℕ) (d : W) → k < length xs → f (slice_index_or ys k d) ≡ f (slice_index_or xs k d)) → sum_by f ys ≡ sum_by f xs
sum_by_same f [] [] len same = refl
sum_by_same f [] (y ∷ ys) len same = absurd (omega (arith, len))
sum_by_same f (x ∷ xs) [] len same = absurd (omega (arith, len))
sum_by_same f (x ∷ xs) (y ∷ ys) len same =
    let first : f y ≡ f x = same 0 x (omega arith) in
    let rest = sum_by_same f xs ys (omega (arith, len)) (λ k d below. same (suc k) d (omega (arith, below))) in
    omega (arith, first, rest, sum_by-cons f x xs, sum_by-cons f y ys)

-- A worker is taken from those that are left, and what its seat added goes to the seat that is kept.
pub joined_weight : {W : Type 0} (weight : ℕ → ℕ) (before own after : List (Positioned ℕ)) (item : ℕ) (left : List W) (worker : W) (all : List W) (item_of : W → ℕ)
    → item_of worker ≡ item → all ≡ left ++ worker ∷ [] → after ≡ before ++ own → {total : ℕ}
    → sum_by (λ (p : Positioned ℕ). weight p.entry) before + sum_by (λ (w : W). weight (item_of w)) all ≡ total
    → sum_by (λ (p : Positioned ℕ). weight p.entry) own ≡ weight item
    → sum_by (λ (p : Positioned ℕ). weight p.entry) after + sum_by (λ (w : W). weight (item_of w)) left ≡ total
joined_weight {W} weight before own after item left worker all item_of its items adds sum wrote =
    let a = ap (sum_by (λ (p : Positioned ℕ). weight p.entry)) adds in
    let b = sum_by-append (λ (p : Positioned ℕ). weight p.entry) before own in
    let d = ap (sum_by (λ (w : W). weight (item_of w))) items in
    let e = sum_by_push (λ (w : W). weight (item_of w)) left worker in
    let f = ap weight its in
    omega (arith, a, b, d, e, f, sum, wrote)

-- What a slice of a whole list was left as is the list.
pub weight_written_back : {W : Type 0} (f : W → ℕ) (n : ℕ) (left rest : List W) → n ≡ length left → sum_by f (take n (left ++ rest)) ≡ sum_by f left
weight_written_back f n left rest len =
    ap (λ (k : ℕ). sum_by f (take k (left ++ rest))) len ∙ ap (sum_by f) (take-append_seam left rest)
