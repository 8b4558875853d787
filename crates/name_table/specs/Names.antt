-- Names and their numbers: a name's number is its position in the list of names.

use Rattle.std.specs.Prelude.{◌≡◌, ℕ, List, [], ◌∷◌, ◌++◌, Some, length, slice_get}

-- The name stands at this position, and at no other.
pub record IsNumberOf (names : List (List ℕ)) (name : List ℕ) (number : ℕ) : Type 0 where
  pub stands : slice_get names number ≡ Some name
  pub one : (other : ℕ) → slice_get names other ≡ Some name → other ≡ number

-- Each name stands at one position alone.
abbrev pub AreDistinct : List (List ℕ) → Type 0
AreDistinct names = (name : List ℕ) (number other : ℕ) → slice_get names number ≡ Some name →
    slice_get names other ≡ Some name → other ≡ number

-- The name is added at the end, and this is its position.
pub record AddsName (old new : List (List ℕ)) (name : List ℕ) (number : ℕ) : Type 0 where
  pub added : new ≡ old ++ name ∷ []
  pub number_is : number ≡ length old

-- The names stand, and others may follow.
abbrev pub Extends : List (List ℕ) → List (List ℕ) → Type 0
Extends old new = (more : List (List ℕ)) × (new ≡ old ++ more)
