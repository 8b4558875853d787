-- Lists of spellings with their numbers, of which those of the keywords and of the marks are made.

use Rattle.std.specs.Prelude.{ℕ, ◌≡◌, Bool, true, false, List, Some, codes, map, slice_get}
use Prim.Native.String.{String}

-- A spelling with its number, and whether it is an alternative one.
pub record Entry : Type 0 where
  pub text : List ℕ
  pub number : ℕ
  pub is_alternative : Bool

-- A spelling, with the name of its number.
abbrev pub spelling : String → ℕ → Entry
spelling text number = record { text = codes text; number = number; is_alternative = false }

-- An alternative spelling, with the name of the number of what it stands for.
abbrev pub alternative : String → ℕ → Entry
alternative text number = record { text = codes text; number = number; is_alternative = true }

-- The spellings with their numbers.
abbrev pub numbers_of : List Entry → List (List ℕ × ℕ)
numbers_of entries = map (λ entry. (entry.text, entry.number)) entries

-- The number of a spelling is its position in the list, from 0. The number of an alternative one is
-- the position of a spelling that is none.
pub record HavePositions (entries : List Entry) : Type 0 where
  pub spellings : (at : ℕ) (entry : Entry) → slice_get entries at ≡ Some entry →
      entry.is_alternative ≡ false → entry.number ≡ at
  pub alternatives : (at : ℕ) (entry : Entry) → slice_get entries at ≡ Some entry →
      entry.is_alternative ≡ true →
      (other : Entry) × (slice_get entries entry.number ≡ Some other)
      × (other.is_alternative ≡ false)
