-- Pooled names: each stands once in a list, and its number is its position.
use Rattle.std.specs.Prelude.{ℕ, ◌≡◌, ◌<◌, ◌⊎◌, List, [], ◌++◌, Some, length, map}
use Rattle.std.specs.Prelude.{slice_get, slice_index}
use Rattle.std.specs.declared.vec.Vec.{Vec}
use Rattle.std.specs.HashSet.{HashSet}

-- The names in a set of vectors of bytes.
abbrev pub names_of : {A S : Type 0} → HashSet (Vec ℕ A) S → List (List ℕ)
names_of set = map (λ name. name.items) set.keys

-- No name stands twice.
pub record AreDistinct (names : List (List ℕ)) : Type 0 where
  pub same : (first second : ℕ) (name : List ℕ) →
      slice_get names first ≡ Some name → slice_get names second ≡ Some name → first ≡ second

-- The empty name comes before all others.
abbrev pub BeginsEmpty : List (List ℕ) → Type 0
BeginsEmpty names = (names ≡ []) ⊎ (slice_get names 0 ≡ Some [])

-- Names were added at the end.
pub record Adds (old new : List (List ℕ)) : Type 0 where
  pub more : List (List ℕ)
  pub is : new ≡ old ++ more

-- The names of one list have these numbers in another.
pub record Numbers (names pool : List (List ℕ)) (numbers : List ℕ) : Type 0 where
  pub one_each : length numbers ≡ length names
  pub stored : (k : ℕ) → k < length names →
      slice_get pool (slice_index numbers k) ≡ slice_get names k
