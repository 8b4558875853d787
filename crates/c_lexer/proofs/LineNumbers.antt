-- The number that digits spell.
use Rattle.std.proofs.Common.{◌≡◌, ℕ, suc, zero, add-zero, ◌+◌, ◌-◌, ◌*◌, ◌<◌, ◌≤◌, List, [], ◌∷◌, ◌++◌, length, take, drop, slice_index, slice_range, refl, ap, ◌∙◌, arith, inl, inr, length-drop, get_or-drop}
use Rattle.std.proofs.lemmas.Bool.{cases_order}
use Rattle.std.proofs.lemmas.List.{take_more}
use Rattle.c_lexer.specs.Bytes.{IsDigit}
use Rattle.c_lexer.specs.Directives.{IsLineNumber, digits_value, max_line}

-- the value of digits behind others
value_append : (value : ℕ) (digits more : List ℕ) → digits_value value (digits ++ more) ≡ digits_value (digits_value value digits) more
value_append value [] more = refl
value_append value (digit ∷ digits) more = value_append (10 * value + (digit - 48)) digits more

-- one more byte of a part
part_more : (bytes : List ℕ) (from to : ℕ) → from ≤ to → to < length bytes → slice_range bytes from (to + 1) ≡ slice_range bytes from to ++ (slice_index bytes to ∷ [])
part_more bytes from to l h =
    let n : to + 1 - from ≡ to - from + 1 = omega arith in
    let at : from + (to - from) ≡ to = omega arith in
    let inside : to - from < length (drop from bytes) = rw length-drop (omega arith) in
    rw n (take_more (drop from bytes) (to - from) 0 inside ∙ ap (λ byte. take (to - from) (drop from bytes) ++ (byte ∷ [])) (get_or-drop from bytes (to - from) 0 ∙ ap (slice_index bytes) at))

-- one more digit
pub value_more : (bytes : List ℕ) (from to line : ℕ) → from ≤ to → to < length bytes → digits_value 0 (slice_range bytes from to) ≡ line → digits_value 0 (slice_range bytes from (to + 1)) ≡ 10 * line + (slice_index bytes to - 48)
value_more bytes from to line l h e =
    ap (digits_value 0) (part_more bytes from to l h) ∙ (value_append 0 (slice_range bytes from to) (slice_index bytes to ∷ []) ∙ ap (λ value. 10 * value + (slice_index bytes to - 48)) e)

-- more digits spell no smaller number
value_grows : (bytes : List ℕ) (from to n : ℕ) → from ≤ to → to + n ≤ length bytes → digits_value 0 (slice_range bytes from to) ≤ digits_value 0 (slice_range bytes from (to + n))
value_grows bytes from to zero l h = rw add-zero (omega arith)
value_grows bytes from to (suc n) l h =
    let before = value_grows bytes from to n l (omega arith) in
    let next : to + suc n ≡ to + n + 1 = omega arith in
    let more = value_more bytes from (to + n) (digits_value 0 (slice_range bytes from (to + n))) (omega arith) (omega arith) refl in
    rw next (omega arith)

-- digits that spell too large a number begin no number of a line
pub number_too_large : (bytes : List ℕ) (from past line to other : ℕ) → past < length bytes → from ≤ past → ((i : ℕ) → from ≤ i → i < past → IsDigit (slice_index bytes i)) → IsDigit (slice_index bytes past) → digits_value 0 (slice_range bytes from past) ≡ line → max_line < 10 * line + (slice_index bytes past - 48) → to ≤ length bytes → (to < length bytes → IsDigit (slice_index bytes to) → ⊥) → IsLineNumber bytes from to other → ⊥
number_too_large bytes from past line to other inside low digits digit value large within ends n =
    let some = n.some in
    let behind : past < to = elim (cases_order past to) [
      | inl same ↦ absurd (ends (omega arith) (rw same at digit))
      | inr (inl h) ↦ h
      | inr (inr h) ↦ absurd (ends (omega arith) (digits to (omega arith) h))
    ] in
    let more = value_more bytes from past line low inside value in
    let end : past + 1 + (to - (past + 1)) ≡ to = omega arith in
    let grows = rw end at (value_grows bytes from (past + 1) (to - (past + 1)) (omega arith) (omega arith)) in
    let is = n.value in
    let small = n.small in
    omega arith
