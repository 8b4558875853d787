-- Lines and columns.
use Rattle.std.proofs.Common.{◌≡◌, ◌==◌, ℕ, suc, zero, ◌+◌, ◌-◌, ◌<◌, ◌≤◌, not, true, false, List, length, take, slice_index, refl, ap, add-zero, arith, eq-eqb, length-take, length-drop, get_or-take}
use Rattle.std.proofs.lemmas.List.Sums.{count_by_more_no, suffix_len_is}
use Rattle.std.specs.List.{suffix_len}
use Rattle.c_lexer.specs.Bytes.{line_feed}
use Rattle.c_lexer.specs.Lines.{line_at, column_at, OnOneLine}

-- a byte that is no line feed begins no line
same_line : (bytes : List ℕ) (at : ℕ) → at < length bytes → (slice_index bytes at ≡ line_feed → ⊥) → line_at bytes (at + 1) ≡ line_at bytes at
same_line bytes at h none =
    let no : (slice_index bytes at == line_feed) ≡ false = grind (arith, none) in
    ap (λ n. n + 1) (count_by_more_no (λ b. b == line_feed) bytes at 0 h no)

-- nor do any number of them
same_line_on : (bytes : List ℕ) (from n : ℕ) → from + n ≤ length bytes → OnOneLine bytes from (from + n) → line_at bytes (from + n) ≡ line_at bytes from
same_line_on bytes from zero h none = rw add-zero refl
same_line_on bytes from (suc n) h none =
    let last : from + suc n ≡ from + n + 1 = omega arith in
    rw (last, same_line bytes (from + n) (omega arith) (none (from + n) (omega arith) (omega arith)))
    (same_line_on bytes from n (omega arith) (λ i a b. none i a (omega arith)))

-- a part without a line feed begins and ends on the same line
pub line_stays : (bytes : List ℕ) (from to : ℕ) → from ≤ to → to ≤ length bytes → OnOneLine bytes from to → line_at bytes to ≡ line_at bytes from
line_stays bytes from to low within none =
    let end : from + (to - from) ≡ to = omega arith in
    rw end at (same_line_on bytes from (to - from) (omega arith) (λ i a b. none i a (omega arith)))

-- the column, by where the line begins
pub column_of : (bytes : List ℕ) (start at : ℕ) → start ≤ at → at ≤ length bytes → OnOneLine bytes start at → (0 < start → slice_index bytes (start - 1) ≡ line_feed) → column_at bytes at ≡ at - start + 1
column_of bytes start at low within none feed =
    let front = take at bytes in
    let long : length front ≡ at = rw length-take (omega arith) in
    let other = λ (byte : ℕ). not (byte == line_feed) in
    let run : suffix_len other front ≡ length front - start =
    suffix_len_is other front start 0 (omega (arith, long))
    (λ k a b.
    let inside : k < at = omega (arith, long) in
    let no : (slice_index bytes k == line_feed) ≡ false = grind (arith, none k a inside) in
    rw (get_or-take, no) refl)
    (λ h.
    let inside : start - 1 < at = omega arith in
    let yes : (slice_index bytes (start - 1) == line_feed) ≡ true = eq-eqb _ _ (feed h) in
    rw (get_or-take, yes) refl) in
    rw length-drop (omega (arith, run, long))
