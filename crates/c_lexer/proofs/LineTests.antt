-- Whether a line begins or ends at a offset, and what stands on it.
use Rattle.std.proofs.Common.{◌≡◌, ℕ, suc, zero, ◌+◌, ◌≤◌, ◌⊎◌, List, length, slice_index, refl, arith, inl, inr}
use Rattle.std.proofs.lemmas.Bool.{cases_eq}
use Rattle.c_lexer.specs.Bytes.{line_feed, IsLineBlank}
use Rattle.c_lexer.specs.Lines.{AreLineBlanks, OnOneLine, BeginsLine, EndsLine}
use Rattle.c_lexer.proofs.ClassTests.{line_blank_or_not}
use Rattle.c_lexer.proofs.Decisions.{Decided, decided_by, both_or_not, either_or_not, no_or_not, most_or_not, each_or_not, some_or_not}

-- only blanks of one line stand between the offsets or not
pub blanks_or_not : (bytes : List ℕ) (from to : ℕ) → Decided (AreLineBlanks bytes from to)
blanks_or_not bytes = each_or_not (λ i. IsLineBlank (slice_index bytes i)) (λ i. line_blank_or_not (slice_index bytes i))

-- no line feed stands between the offsets or one does
pub one_line_or_not : (bytes : List ℕ) (from to : ℕ) → Decided (OnOneLine bytes from to)
one_line_or_not bytes = each_or_not (λ i. slice_index bytes i ≡ line_feed → ⊥) (λ i. no_or_not (slice_index bytes i ≡ line_feed) (cases_eq (slice_index bytes i) line_feed))

-- the line ends at the offset or not
pub ends_line_or_not : (bytes : List ℕ) (at : ℕ) → Decided (EndsLine bytes at)
ends_line_or_not bytes at = either_or_not (at ≡ length bytes) (slice_index bytes at ≡ line_feed) (cases_eq at (length bytes)) (cases_eq (slice_index bytes at) line_feed)

-- the text or a line of it begins at the offset
abbrev IsStart : List ℕ → ℕ → Type 0
IsStart bytes start = (start ≡ 0) ⊎ ((feed : ℕ) × (start ≡ feed + 1) × (slice_index bytes feed ≡ line_feed))

-- such a offset or not
start_or_not : (bytes : List ℕ) (start : ℕ) → Decided (IsStart bytes start)
start_or_not bytes zero = inl (inl refl)
start_or_not bytes (suc feed) =
    elim (cases_eq (slice_index bytes feed) line_feed) [
      | inl e ↦ inl (inr (feed, omega arith, e))
      | inr other ↦ inr (λ s. elim s [
        | inl e ↦ omega arith
        | inr behind ↦ let next = behind.1 in let same : behind.0 ≡ feed = omega arith in other (rw same at behind.2)
      ])
    ]

-- only blanks stand before the offset on its line or not
pub begins_line_or_not : (bytes : List ℕ) (at : ℕ) → Decided (BeginsLine bytes at)
begins_line_or_not bytes at =
    decided_by _ (BeginsLine bytes at)
    (λ s. record { start = s.0; before = s.1.0; is_start = s.1.1.0; blanks = s.1.1.1 })
    (λ b. (b.start, (b.before, (b.is_start, b.blanks))))
    (some_or_not (λ start. (start ≤ at) × (IsStart bytes start × AreLineBlanks bytes start at))
    (λ start. both_or_not _ _ (most_or_not start at) (λ before.
    both_or_not _ _ (start_or_not bytes start) (λ is_start.
    blanks_or_not bytes start at)))
    (at + 1) (λ start s. let before = s.0 in omega arith))
