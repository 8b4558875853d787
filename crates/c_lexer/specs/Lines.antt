-- Lines and columns of a text.

use Rattle.std.specs.Prelude.{ℕ, ◌≡◌, ◌≢◌, ◌⊎◌, ◌+◌, ◌<◌, ◌≤◌, ◌==◌}
use Rattle.std.specs.Prelude.{List, length, take, count_by, slice_index}
use Rattle.std.specs.List.{after_last}
use Rattle.c_lexer.specs.Bytes.{line_feed, IsLineBlank}

-- The line of an offset: one more than the line feeds before it.
abbrev pub line_at : List ℕ → ℕ → ℕ
line_at bytes at = count_by (λ byte. byte == line_feed) (take at bytes) + 1

-- The column of an offset: one more than the bytes after the last line feed before it.
abbrev pub column_at : List ℕ → ℕ → ℕ
column_at bytes at = length (after_last (λ byte. byte == line_feed) (take at bytes)) + 1

-- No line feed stands between the offsets.
abbrev pub OnOneLine : List ℕ → ℕ → ℕ → Type 0
OnOneLine bytes from to = (i : ℕ) → from ≤ i → i < to → slice_index bytes i ≢ line_feed

-- All bytes between the offsets are blanks of one line; there may be none.
abbrev pub AreLineBlanks : List ℕ → ℕ → ℕ → Type 0
AreLineBlanks bytes from to = (i : ℕ) → from ≤ i → i < to → IsLineBlank (slice_index bytes i)

-- A line begins at the offset: the text does, or a line feed stands before it.
abbrev pub IsLineStart : List ℕ → ℕ → Type 0
IsLineStart bytes at =
    (at ≡ 0) ⊎ ((feed : ℕ) × (at ≡ feed + 1) × (slice_index bytes feed ≡ line_feed))

-- Only blanks stand before the offset on its line.
pub record BeginsLine (bytes : List ℕ) (at : ℕ) : Type 0 where
  pub start : ℕ
  pub before : start ≤ at
  pub is_start : IsLineStart bytes start
  pub blanks : AreLineBlanks bytes start at

-- The line ends at the offset, or the text.
abbrev pub EndsLine : List ℕ → ℕ → Type 0
EndsLine bytes at = (at ≡ length bytes) ⊎ (slice_index bytes at ≡ line_feed)
