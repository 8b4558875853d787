-- Where lines begin and end.
use Rattle.std.proofs.Common.{◌≡◌, ℕ, ◌⊎◌, ◌+◌, ◌<◌, ◌≤◌, List, length, slice_index, arith, inl, inr}
use Rattle.std.proofs.lemmas.Bool.{cases_lt, cases_order}
use Rattle.std.proofs.lemmas.List.{get_or_past}
use Rattle.c_lexer.specs.Bytes.{line_feed, IsLineBlank}
use Rattle.c_lexer.specs.Lines.{AreLineBlanks, EndsLine, OnOneLine}
use Rattle.c_lexer.proofs.Parts.{run_once}

-- a byte that is not 0 stands within the text
pub inside : (bytes : List ℕ) (at : ℕ) → 0 < slice_index bytes at → at < length bytes
inside bytes at h = elim (cases_lt at (length bytes)) [
  | inl l ↦ l
  | inr l ↦ absurd (omega (arith, get_or_past bytes at 0 l))
]

-- the offset is within the text or its end, and no byte but a line feed stands there
pub record IsLineEnd (bytes : List ℕ) (at : ℕ) : Type 0 where
  pub within : at ≤ length bytes
  pub byte : (slice_index bytes at ≡ 0) ⊎ (slice_index bytes at ≡ line_feed)

-- what stands where a line ends
pub line_end : (bytes : List ℕ) (at : ℕ) → EndsLine bytes at → IsLineEnd bytes at
line_end bytes at (inl e) = record { within = omega arith; byte = inl (get_or_past bytes at 0 (omega arith)) }
line_end bytes at (inr e) = record { within = (let l = inside bytes at (omega arith) in omega arith); byte = inr e }

-- a line that ends at p does not go on past it
not_past : (bytes : List ℕ) (from p q : ℕ) → from ≤ p → p < q → EndsLine bytes p → OnOneLine bytes from q → EndsLine bytes q → ⊥
not_past bytes from p q l h (inl e) one end = let w = (line_end bytes q end).within in omega arith
not_past bytes from p q l h (inr e) one end = one p l h e

-- a line has one end
pub one_end : (bytes : List ℕ) (from p q : ℕ) → OnOneLine bytes from p → EndsLine bytes p → OnOneLine bytes from q → EndsLine bytes q → from ≤ p → from ≤ q → p ≡ q
one_end bytes from p q a e b f l m = elim (cases_order p q) [
  | inl same ↦ same
  | inr (inl h) ↦ absurd (not_past bytes from p q l h e b f)
  | inr (inr h) ↦ absurd (not_past bytes from q p m h f a e)
]

-- two parts without a line feed that follow each other have none together
pub one_line_joined : (bytes : List ℕ) (from at to : ℕ) → OnOneLine bytes from at → OnOneLine bytes at to → OnOneLine bytes from to
one_line_joined bytes from at to a b i l h = elim (cases_lt i at) [ inl m ↦ a i l m | inr m ↦ b i m h ]

-- one byte that is no line feed stands on one line
pub byte_on_one_line : (bytes : List ℕ) (at : ℕ) → (slice_index bytes at ≡ line_feed → ⊥) → OnOneLine bytes at (at + 1)
byte_on_one_line bytes at n i l h = let same : i ≡ at = omega arith in rw same n

-- blanks hold no line feed
pub blanks_on_one_line : (bytes : List ℕ) (from to : ℕ) → AreLineBlanks bytes from to → OnOneLine bytes from to
blanks_on_one_line bytes from to b i l h = (b i l h).1

-- a run of blanks has one end
pub blanks_once : (bytes : List ℕ) (from p q : ℕ) → from ≤ p → from ≤ q → AreLineBlanks bytes from p → AreLineBlanks bytes from q → (IsLineBlank (slice_index bytes p) → ⊥) → (IsLineBlank (slice_index bytes q) → ⊥) → p ≡ q
blanks_once = run_once IsLineBlank

-- no blank stands past the end of the text
pub no_blank_past : (bytes : List ℕ) (at : ℕ) → (at < length bytes → IsLineBlank (slice_index bytes at) → ⊥) → IsLineBlank (slice_index bytes at) → ⊥
no_blank_past bytes at n b = n (inside bytes at (let x = b.0 in grind arith)) b
