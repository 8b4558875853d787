-- A table of words in which one look finds a word.

use Rattle.std.specs.Prelude.{ℕ, ◌+◌, ◌-◌, ◌*◌, ◌/◌, ◌%◌, ◌==◌, ◌&&◌, Bool, true}
use Rattle.std.specs.Prelude.{List, [], ◌∷◌, length, map, slice_index}
use Rattle.std.specs.Borrow.{Bor}

-- The rows of the code's table: a word and its number.
abbrev pub rows_of : List (Bor (List ℕ) × ℕ) → List (List ℕ × ℕ)
rows_of table = map (λ row. (row.0.now, row.1)) table

-- The slot of a word, one of 256.
abbrev pub slot_of : List ℕ → ℕ
slot_of word =
    (23 * length word + 29 * slice_index word 0 + 63 * slice_index word (length word * 2 / 3)
    + 19 * slice_index word (length word - 1)) % 256

-- Whether the position of each row, of which the first is `at`, stands at the slot of its word.
abbrev pub are_placed : List (List ℕ × ℕ) → ℕ → List ℕ → Bool
are_placed [] at positions = true
are_placed (row ∷ rows) at positions =
    (slice_index positions (slot_of row.0) == at) && are_placed rows (at + 1) positions
