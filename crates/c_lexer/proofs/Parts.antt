-- Parts of a text, and runs of bytes in it.
use Rattle.std.proofs.Common.{◌≡◌, ℕ, ◌+◌, ◌-◌, ◌<◌, ◌≤◌, List, length, slice_range, slice_index, refl, add-zero, arith, length-drop, length-take, get_or-drop, get_or-take, inl, inr}
use Rattle.std.proofs.lemmas.Bool.{cases_lt, cases_order}

-- ---- Parts

-- the length of a part
pub part_length : (bytes : List ℕ) (from to : ℕ) → to ≤ length bytes → length (slice_range bytes from to) ≡ to - from
part_length bytes from to h = simp (length-take, length-drop) (omega arith)

-- a byte of a part
pub part_at : (bytes : List ℕ) (from to i : ℕ) → from + i < to → slice_index (slice_range bytes from to) i ≡ slice_index bytes (from + i)
part_at bytes from to i h = let k : i < to - from = omega arith in rw (get_or-take, get_or-drop) refl

-- the same, by its offset in the text
pub part_offset : (bytes : List ℕ) (from to i : ℕ) → from ≤ i → i < to → slice_index (slice_range bytes from to) (i - from) ≡ slice_index bytes i
part_offset bytes from to i low high =
    let inside : from + (i - from) < to = omega arith in
    let same : from + (i - from) ≡ i = omega arith in
    rw same at (part_at bytes from to (i - from) inside)

-- the first byte of a part
pub part_first : (bytes : List ℕ) (from to : ℕ) → from < to → slice_index (slice_range bytes from to) 0 ≡ slice_index bytes from
part_first bytes from to h = let k : from + 0 < to = omega arith in rw (part_at bytes from to 0 k, add-zero) refl

-- ---- Runs

-- a run that begins with one of its bytes is not empty
pub begun : (P : ℕ → Type 0) (bytes : List ℕ) (from to : ℕ) → from ≤ to → from < length bytes → P (slice_index bytes from) → (to < length bytes → P (slice_index bytes to) → ⊥) → from < to
begun P bytes from to low inside first ends = let ne : to ≡ from → ⊥ = λ e. ends (omega arith) (rw e first) in omega arith

-- one more offset of a run
pub run_more : (P : ℕ → Type 0) (from to : ℕ) → ((i : ℕ) → from ≤ i → i < to → P i) → P to → (i : ℕ) → from ≤ i → i < to + 1 → P i
run_more P from to each last i l h = elim (cases_lt i to) [
  | inl m ↦ each i l m
  | inr m ↦ let same : i ≡ to = omega arith in rw same last
]

-- runs from one offset, each before a byte that is none of theirs, end at one offset
pub run_once : (P : ℕ → Type 0) (bytes : List ℕ) (from p q : ℕ) → from ≤ p → from ≤ q → ((i : ℕ) → from ≤ i → i < p → P (slice_index bytes i)) → ((i : ℕ) → from ≤ i → i < q → P (slice_index bytes i)) → (P (slice_index bytes p) → ⊥) → (P (slice_index bytes q) → ⊥) → p ≡ q
run_once P bytes from p q l m a b f g = elim (cases_order p q) [
  | inl same ↦ same
  | inr (inl h) ↦ absurd (f (b p l h))
  | inr (inr h) ↦ absurd (g (a q m h))
]
