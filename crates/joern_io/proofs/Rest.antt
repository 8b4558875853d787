-- The bytes that were read so far, and those that are left.
use Rattle.std.proofs.Common.{◌≡◌, ℕ, List, ◌++◌, Option, Some, None}

-- What was read and what is left now are what was left before, where that is told.
abbrev pub TookOff : Option (List ℕ) → Option (List ℕ) → List ℕ → Type 0
TookOff None now read = Unit {0}
TookOff (Some before) now read = (rest : List ℕ) × (now ≡ Some rest) × (read ++ rest ≡ before)
