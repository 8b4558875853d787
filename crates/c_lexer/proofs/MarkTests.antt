-- Whether a mark stands between two offsets.
use Rattle.std.proofs.Common.{ℕ, List, slice_range}
use Rattle.c_lexer.specs.Bytes.{percent_sign, asterisk, slash, colon}
use Rattle.c_lexer.specs.Entries.{numbers_of}
use Rattle.c_lexer.specs.Marks.{marks, IsMarkAt}
use Rattle.c_lexer.proofs.CommentTests.{pair_or_not}
use Rattle.c_lexer.proofs.Decisions.{Decided, decided_by, both_or_not, either_or_not, no_or_not, row_or_not}

-- a mark stands between the offsets or not
pub mark_or_not : (bytes : List ℕ) (from to : ℕ) → Decided ((number : ℕ) × IsMarkAt bytes from to number)
mark_or_not bytes from to =
    decided_by _ ((number : ℕ) × IsMarkAt bytes from to number)
    (λ m. (m.1.1.0, record { mark = m.1.1.1; no_comment = m.0; no_hash = m.1.0 }))
    (λ m. (m.1.no_comment, (m.1.no_hash, (m.0, m.1.mark))))
    (both_or_not _ _ (no_or_not _ (either_or_not _ _ (pair_or_not bytes from slash asterisk) (pair_or_not bytes from slash slash))) (λ no_comment.
    both_or_not _ _ (no_or_not _ (pair_or_not bytes from percent_sign colon)) (λ no_hash.
    row_or_not (numbers_of marks) (slice_range bytes from to))))
