-- The lines that begin with `#` in the preprocessor's output (ours, after C11 6.10.4 and 6.10.6):
-- line markers and pragmas. Such a line is one token, from its `#` to its end.

use Rattle.std.specs.Prelude.{ℕ, ◌≡◌, ◌+◌, ◌-◌, ◌*◌, ◌<◌, ◌≤◌, List, [], ◌∷◌}
use Rattle.std.specs.Prelude.{Option, Some, None, codes, slice_index, slice_range}
use Rattle.c_lexer.specs.Bytes.{number_sign, double_quote, IsDigit}
use Rattle.c_lexer.specs.Lines.{AreLineBlanks, OnOneLine, BeginsLine, EndsLine}
use Rattle.c_lexer.specs.Literals.{IsQuoted}

-- The number that decimal digits spell, behind digits that spell `value`.
abbrev pub digits_value : ℕ → List ℕ → ℕ
digits_value value [] = value
digits_value value (digit ∷ digits) = digits_value (10 * value + (digit - 48)) digits

-- The largest number of a line.
abbrev pub max_line : ℕ
max_line = 2147483647

-- Blanks of one line stand between the offsets, at least one.
pub record IsGap (bytes : List ℕ) (from to : ℕ) : Type 0 where
  pub some : from < to
  pub blanks : AreLineBlanks bytes from to

-- Digits stand between the offsets, at least one, that spell the number.
pub record IsLineNumber (bytes : List ℕ) (from to line : ℕ) : Type 0 where
  pub some : from < to
  pub digits : (i : ℕ) → from ≤ i → i < to → IsDigit (slice_index bytes i)
  pub value : digits_value 0 (slice_range bytes from to) ≡ line
  pub small : line ≤ max_line

-- A gap and a string literal without a prefix; the name is what stands between the quotes.
pub record IsFileName (bytes : List ℕ) (from to : ℕ) (name : List ℕ) : Type 0 where
  pub opening : ℕ
  pub closing : ℕ
  pub gap : IsGap bytes from opening
  pub quoted : IsQuoted bytes double_quote opening closing
  pub end : to ≡ closing + 1
  pub name_is : name ≡ slice_range bytes (opening + 1) closing

-- Nothing, or a file's name.
abbrev pub IsFilePart : List ℕ → ℕ → ℕ → Option (List ℕ) → Type 0
IsFilePart bytes from to None = from ≡ to
IsFilePart bytes from to (Some name) = IsFileName bytes from to name

-- Any number of flags, each a gap and a digit from 1 to 4.
pub data AreFlags (bytes : List ℕ) : ℕ → ℕ → Type 0 where
  none : {at : ℕ} → AreFlags bytes at at
  flag : {from digit to : ℕ} → IsGap bytes from digit → 49 ≤ slice_index bytes digit →
      slice_index bytes digit ≤ 52 → AreFlags bytes (digit + 1) to → AreFlags bytes from to

-- Between the offsets stands a line marker: it says that the next line has this number, and is of
-- this file if it names one.
pub record IsMarkerOf (bytes : List ℕ) (from to line : ℕ) (file : Option (List ℕ)) : Type 0 where
  pub begins_line : BeginsLine bytes from
  pub sign : slice_index bytes from ≡ number_sign
  pub number : ℕ
  pub gap : IsGap bytes (from + 1) number
  pub past : ℕ
  pub line_number : IsLineNumber bytes number past line
  pub flags : ℕ
  pub file_part : IsFilePart bytes past flags file
  pub flagged : AreFlags bytes flags to
  pub ends_line : EndsLine bytes to

abbrev pub IsLineMarker : List ℕ → ℕ → ℕ → Type 0
IsLineMarker bytes from to =
    (line : ℕ) × (file : Option (List ℕ)) × IsMarkerOf bytes from to line file

-- Between the offsets stands a pragma: `#`, blanks if there are any, `pragma`, and any bytes to the
-- end of the line (6.10.6). Ours: `pragma` need not be a whole word.
pub record IsPragma (bytes : List ℕ) (from to : ℕ) : Type 0 where
  pub begins_line : BeginsLine bytes from
  pub sign : slice_index bytes from ≡ number_sign
  pub word : ℕ
  pub behind : from + 1 ≤ word
  pub blanks : AreLineBlanks bytes (from + 1) word
  pub pragma : slice_range bytes word (word + 6) ≡ codes "pragma"
  pub past : word + 6 ≤ to
  pub one_line : OnOneLine bytes (word + 6) to
  pub ends_line : EndsLine bytes to
