-- Comments (C11 6.4.9).

use Rattle.std.specs.Prelude.{ℕ, ◌≡◌, ◌⊎◌, ◌+◌, ◌<◌, ◌≤◌, List, length, slice_index}
use Rattle.c_lexer.specs.Bytes.{slash, asterisk}
use Rattle.c_lexer.specs.Lines.{OnOneLine, EndsLine}

-- Two bytes stand at the offset, one after the other.
pub record IsPair (bytes : List ℕ) (at first second : ℕ) : Type 0 where
  pub first_is : slice_index bytes at ≡ first
  pub second_is : slice_index bytes (at + 1) ≡ second

-- `/*` or `//` (p1, p2).
abbrev pub BeginsComment : List ℕ → ℕ → Type 0
BeginsComment bytes at = IsPair bytes at slash asterisk ⊎ IsPair bytes at slash slash

-- From `/*` to the first `*/` behind it (p1).
pub record IsBlockComment (bytes : List ℕ) (from to : ℕ) : Type 0 where
  pub opens : IsPair bytes from slash asterisk
  pub close : ℕ
  pub behind : from + 2 ≤ close
  pub closes : IsPair bytes close asterisk slash
  pub first : (i : ℕ) → from + 2 ≤ i → i < close → ¬ IsPair bytes i asterisk slash
  pub end : to ≡ close + 2
  pub within : to ≤ length bytes

-- From `//` to the end of the line (p2). Ours: a backslash there does not continue it.
pub record IsLineComment (bytes : List ℕ) (from to : ℕ) : Type 0 where
  pub opens : IsPair bytes from slash slash
  pub behind : from + 2 ≤ to
  pub one_line : OnOneLine bytes from to
  pub ends : EndsLine bytes to
  pub within : to ≤ length bytes
