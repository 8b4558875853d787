-- Preprocessing numbers (C11 6.4.8): what any number looks like, before it is known whether it is
-- one. Ours: universal character names are not read.

use Rattle.std.specs.Prelude.{ℕ, ◌≡◌, ◌⊎◌, ◌+◌, ◌<◌, ◌≤◌, List, slice_index}
use Rattle.c_lexer.specs.Bytes.{full_stop, IsDigit, IsWordByte, IsExponent, IsSign}

-- A digit, or `.` and a digit.
abbrev pub BeginsNumber : List ℕ → ℕ → Type 0
BeginsNumber bytes at =
    IsDigit (slice_index bytes at)
    ⊎ ((slice_index bytes at ≡ full_stop) × IsDigit (slice_index bytes (at + 1)))

-- Directly after an exponent's letter of what begins at `from`.
pub record FollowsExponent (bytes : List ℕ) (from at : ℕ) : Type 0 where
  pub letter : ℕ
  pub inside : from ≤ letter
  pub directly : at ≡ letter + 1
  pub exponent : IsExponent (slice_index bytes letter)

-- A digit, a letter, `_` or `.`, or a sign directly after an exponent's letter of the number that
-- begins at `from`.
abbrev pub IsNumberByte : List ℕ → ℕ → ℕ → Type 0
IsNumberByte bytes from at =
    IsWordByte (slice_index bytes at)
    ⊎ (slice_index bytes at ≡ full_stop)
    ⊎ (IsSign (slice_index bytes at) × FollowsExponent bytes from at)

-- A number stands between the offsets. A `.` alone is none, though `begins` looks at the byte
-- behind it.
pub record IsNumber (bytes : List ℕ) (from to : ℕ) : Type 0 where
  pub begins : BeginsNumber bytes from
  pub not_alone : slice_index bytes from ≡ full_stop → from + 1 < to
  pub each : (i : ℕ) → from ≤ i → i < to → IsNumberByte bytes from i
