-- Whether a number stands between two offsets.
use Rattle.std.proofs.Common.{◌≡◌, ℕ, ◌+◌, ◌-◌, ◌<◌, List, slice_index, arith}
use Rattle.std.proofs.lemmas.Bool.{cases_eq}
use Rattle.c_lexer.specs.Bytes.{full_stop, IsExponent}
use Rattle.c_lexer.specs.Numbers.{BeginsNumber, FollowsExponent, IsNumberByte, IsNumber}
use Rattle.c_lexer.proofs.ClassTests.{digit_or_not, word_byte_or_not, exponent_or_not, sign_or_not}
use Rattle.c_lexer.proofs.Decisions.{Decided, decided_by, both_or_not, either_or_not, implied_or_not, less_or_not, each_or_not}

-- a number begins at the offset or not
begins_or_not : (bytes : List ℕ) (at : ℕ) → Decided (BeginsNumber bytes at)
begins_or_not bytes at =
    let byte = slice_index bytes at in
    either_or_not _ _ (digit_or_not byte)
    (both_or_not _ _ (cases_eq byte full_stop) (λ stop. digit_or_not (slice_index bytes (at + 1))))

-- an exponent's letter stands directly before the offset or not
follows_or_not : (bytes : List ℕ) (from at : ℕ) → Decided (FollowsExponent bytes from at)
follows_or_not bytes from at =
    decided_by ((from < at) × IsExponent (slice_index bytes (at - 1))) (FollowsExponent bytes from at)
    (λ h. let ahead = h.0 in record { letter = at - 1; inside = omega arith; directly = omega arith; exponent = h.1 })
    (λ h.
    let inside = h.inside in
    let directly = h.directly in
    let before : h.letter ≡ at - 1 = omega arith in
    (omega arith, rw before at h.exponent))
    (both_or_not _ _ (less_or_not from at) (λ ahead. exponent_or_not (slice_index bytes (at - 1))))

-- the byte at the offset is one of the number or not
number_byte_or_not : (bytes : List ℕ) (from at : ℕ) → Decided (IsNumberByte bytes from at)
number_byte_or_not bytes from at =
    let byte = slice_index bytes at in
    either_or_not _ _ (word_byte_or_not byte) (either_or_not _ _ (cases_eq byte full_stop)
    (both_or_not _ _ (sign_or_not byte) (λ sign. follows_or_not bytes from at)))

-- a number stands between the offsets or not
pub number_or_not : (bytes : List ℕ) (from to : ℕ) → Decided (IsNumber bytes from to)
number_or_not bytes from to =
    decided_by _ (IsNumber bytes from to)
    (λ n. record { begins = n.0; not_alone = n.1.0; each = n.1.1 }) (λ n. (n.begins, (n.not_alone, n.each)))
    (both_or_not _ _ (begins_or_not bytes from) (λ begins.
    both_or_not _ _ (implied_or_not _ _ (cases_eq (slice_index bytes from) full_stop) (less_or_not (from + 1) to)) (λ alone.
    each_or_not (IsNumberByte bytes from) (number_byte_or_not bytes from) from to)))
