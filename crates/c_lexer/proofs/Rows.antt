-- Rows of a table of words.
use Rattle.std.proofs.Common.{◌≡◌, ℕ, suc, zero, ◌+◌, ◌<◌, ◌==◌, true, List, [], ◌∷◌, length, get_or, slice_index, ap, ◌∙◌, zero-add, arith, Bor, nat_lt}
use Rattle.std.specs.List.{Contains, list_all}
use Rattle.std.proofs.lemmas.Bool.{and_parts, eqb-true, ltb-true}
use Rattle.std.proofs.lemmas.List.{get_or-map, length-map}
use Rattle.std.proofs.lemmas.List.Sums.{AllPass-from_list_all}
use Rattle.c_lexer.specs.WordTable.{rows_of, slot_of, are_placed}

-- a row of the code's table
abbrev Row : Type 0
Row = Bor (List ℕ) × ℕ

-- what a look past the table's end gives
abbrev pub no_row : Bor (List ℕ) × ℕ
no_row = (record { ref_ptr = (0, 0); now = [] }, 0)

-- a row stands at its position
placed_at : (positions : List ℕ) (rows : List (List ℕ × ℕ)) (n k : ℕ) (d : List ℕ × ℕ) → are_placed rows n positions ≡ true → k < length rows → slice_index positions (slot_of (get_or rows k d).0) ≡ n + k
placed_at positions [] n k d h l = absurd (omega arith)
placed_at positions (row ∷ rows) n zero d h l =
    let p = and_parts (slice_index positions (slot_of row.0) == n) (are_placed rows (n + 1) positions) h in
    let e = eqb-true _ _ p.0 in
    omega (arith, e)
placed_at positions (row ∷ rows) n (suc k) d h l =
    let p = and_parts (slice_index positions (slot_of row.0) == n) (are_placed rows (n + 1) positions) h in
    let e = placed_at positions rows (n + 1) k d p.1 (omega arith) in
    omega (arith, e)

-- a position of the table is within it
pub position_within : (table : List Row) (positions : List ℕ) (slot : ℕ) → list_all (λ position. nat_lt position (length table)) positions ≡ true → slot < length positions → slice_index positions slot < length table
position_within table positions slot h l = ltb-true _ _ (AllPass-from_list_all (λ position. nat_lt position (length table)) positions h slot 0 l)

-- the row at the position is one of the table
pub found : (table : List Row) (word : List ℕ) (position : ℕ) (d : Row) → position < length table → (get_or table position d).0.now ≡ word → Contains (rows_of table) (word, (get_or table position d).1)
found table word position d l e =
    let row = get_or table position d in (
      position,
      rw length-map l,
      get_or-map (λ (row : Row). (row.0.now, row.1)) table position d _ l ∙ ap (λ (text : List ℕ). (text, row.1)) e,
    )

-- a word of the table is that of the row at its position
pub only_there : (table : List Row) (positions word : List ℕ) (number : ℕ) (d : Row) → are_placed (rows_of table) 0 positions ≡ true → Contains (rows_of table) (word, number) → (get_or table (slice_index positions (slot_of word)) d).0.now ≡ word
only_there table positions word number d h c =
    let k = c.0 in
    let within : k < length table = rw length-map at c.1 in
    let here : (get_or (rows_of table) k (word, number)).0 ≡ word = ap (λ (row : List ℕ × ℕ). row.0) c.2 in
    let position : slice_index positions (slot_of word) ≡ k = rw (here, zero-add) at (placed_at positions (rows_of table) 0 k (word, number) h c.1) in
    let row = get_or-map {Y = List ℕ × ℕ} (λ (row : Row). (row.0.now, row.1)) table k d (word, number) within in
    let there : (get_or table k d).0.now ≡ word = rw row at here in
    rw position there
