-- Sets of pairs of numbers that grow.
use Rattle.std.specs.Prelude.{ℕ, ◌≡◌, ◌≢◌, ◌<◌, ◌++◌, List, map, length, slice_index_or}
use Rattle.std.specs.List.{All, AllPairs, Contains}
use Rattle.path_facts.specs.declared.pair_set.PairSet.{PairSet}

-- The pair at a position.
abbrev pub pair_at : PairSet → ℕ → ℕ × ℕ
pair_at set position = slice_index_or set.pairs.items position (0, 0)

-- The set has each of its pairs once, and chains them by their first numbers. Those behind which
-- another one with the same first number stands were passed.
pub record IsKept (set : PairSet) : Type 0 where
  pub passed_stand : All (Contains set.pairs.items) set.passed.keys
  pub passed : (position later : ℕ) → position < later → later < length set.pairs.items →
      (pair_at set position).0 ≡ (pair_at set later).0 →
      Contains set.passed.keys (pair_at set position)
  pub once : AllPairs (λ a b. a ≢ b) set.pairs.items
  pub below : All (λ pair. pair.0 < set.by_first.count) set.pairs.items
  pub keys : set.by_first.keys ≡ map (λ pair. pair.0) set.pairs.items

-- The set grows by pairs that are so, and keeps what was met at its position.
pub record Grows (IsSo : ℕ × ℕ → Type 0) (before after : PairSet) : Type 0 where
  pub kept : IsKept after
  pub count : after.by_first.count ≡ before.by_first.count
  pub more : List (ℕ × ℕ)
  pub grown : after.pairs.items ≡ before.pairs.items ++ more
  pub new : All IsSo more

-- The pair is met, and no other one is new.
pub record Meets (before after : PairSet) (pair : ℕ × ℕ) : Type 0 where
  pub grows : Grows (λ new. new ≡ pair) before after
  pub met : Contains after.pairs.items pair
