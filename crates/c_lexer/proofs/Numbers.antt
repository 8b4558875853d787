-- Preprocessing numbers.
use Rattle.std.proofs.Common.{◌≡◌, ℕ, ◌+◌, ◌<◌, ◌⊎◌, List, slice_index, arith, inl, inr}
use Rattle.c_lexer.specs.Bytes.{line_feed, double_quote, number_sign, single_quote, full_stop, IsBlank, IsDigit, IsSign, IsWordByte}
use Rattle.c_lexer.specs.Lines.{OnOneLine}
use Rattle.c_lexer.specs.Numbers.{IsNumberByte, IsNumber}

-- a number begins with a digit, or with `.` and a digit of it
pub number_first : (bytes : List ℕ) (from to : ℕ) → IsNumber bytes from to → from < to → IsDigit (slice_index bytes from) ⊎ ((slice_index bytes from ≡ full_stop) × (from + 1 < to) × IsDigit (slice_index bytes (from + 1)))
number_first bytes from to h some = elim h.begins [
  | inl digit ↦ inl digit
  | inr stop ↦ inr (stop.0, h.not_alone stop.0, stop.1)
]

-- a byte of a number is no quote, no line feed, no other blank and no `#`
pub record IsInNumber (byte : ℕ) : Type 0 where
  pub no_double : byte ≡ double_quote → ⊥
  pub no_single : byte ≡ single_quote → ⊥
  pub no_feed : byte ≡ line_feed → ⊥
  pub no_blank : IsBlank byte → ⊥
  pub no_sign : byte ≡ number_sign → ⊥

-- what may stand in a number is such a byte
in_number : (byte : ℕ) → IsWordByte byte ⊎ (byte ≡ full_stop) ⊎ IsSign byte → IsInNumber byte
in_number byte h = record {
  no_double = λ e. grind arith;
  no_single = λ e. grind arith;
  no_feed = λ e. grind arith;
  no_blank = λ b. grind arith;
  no_sign = λ e. grind arith;
}

-- each byte of a number is such a byte
pub number_byte : (bytes : List ℕ) (from at : ℕ) → IsNumberByte bytes from at → IsInNumber (slice_index bytes at)
number_byte bytes from at h = in_number (slice_index bytes at) (elim h [
  | inl word ↦ inl word
  | inr (inl stop) ↦ inr (inl stop)
  | inr (inr sign) ↦ inr (inr sign.0)
])

-- a number stands on one line
pub number_on_one_line : (bytes : List ℕ) (from to : ℕ) → IsNumber bytes from to → OnOneLine bytes from to
number_on_one_line bytes from to h i low high = (number_byte bytes from i (h.each i low high)).no_feed
