-- Items that are changed one after another, where they stand.
use Rattle.std.proofs.Common.{◌≡◌, ℕ, zero, suc, ◌+◌, ◌<◌, List, [], ◌∷◌, ◌++◌, length, map, take, drop, get_or, slice_set, refl, ap, sym, ◌∙◌, add-one, arith}

module _ {X : Type 0} (f : X → X) (d : X) where
  -- so many of the items are changed
  changed_to : ℕ → List X → List X
  changed_to i xs = map f (take i xs) ++ drop i xs

  by_one : (i : ℕ) (xs : List X) → i < length xs → slice_set (changed_to i xs) i (f (get_or (changed_to i xs) i d)) ≡ changed_to (suc i) xs
  unfolding changed_to
  by_one i [] h = absurd (omega arith)
  by_one zero (x ∷ xs) h = refl
  by_one (suc i) (x ∷ xs) h = ap (λ (rest : List X). f x ∷ rest) (by_one i xs (omega arith))

  -- one more is changed
  pub one_more : (i : ℕ) (xs now : List X) (y : X) → i < length xs → now ≡ map f (take i xs) ++ drop i xs → y ≡ f (get_or now i d) →
      slice_set now i y ≡ map f (take (i + 1) xs) ++ drop (i + 1) xs
  unfolding changed_to
  one_more i xs now y h same is =
      ap (slice_set now i) is
      ∙ ap (λ (ys : List X). slice_set ys i (f (get_or ys i d))) same
      ∙ by_one i xs h
      ∙ ap (λ (n : ℕ). map f (take n xs) ++ drop n xs) (sym (add-one i))
