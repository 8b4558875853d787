-- How the bytes of texts, one after another, and where each ends stand for a list of texts.

use Rattle.std.specs.Prelude.{◌≡◌, ◌<◌, ◌≤◌, ◌^◌, ℕ, zero, suc, List, length, map}
use Rattle.std.specs.Prelude.{slice_index, slice_range}
use Rattle.std.specs.List.{range_with_len}

-- Where the text of the number begins: where that before it ends.
abbrev pub begin_of : List ℕ → ℕ → ℕ
begin_of ends zero = 0
begin_of ends (suc before) = slice_index ends before

-- The text of the number: up to where the next one begins.
abbrev pub text_at : List ℕ → List ℕ → ℕ → List ℕ
text_at bytes ends number = slice_range bytes (begin_of ends number) (begin_of ends (suc number))

-- The texts in the order of their numbers.
unfoldable pub texts_of : List ℕ → List ℕ → List (List ℕ)
texts_of bytes ends = map (text_at bytes ends) (range_with_len 0 (length ends))

-- No text begins before an earlier one, and the last ends with the bytes.
pub record AreEnds (bytes ends : List ℕ) : Type 0 where
  pub ordered : (number later : ℕ) → number ≤ later → later ≤ length ends →
      begin_of ends number ≤ begin_of ends later
  pub whole : begin_of ends (length ends) ≡ length bytes
  pub few : length ends < 2 ^ 32
