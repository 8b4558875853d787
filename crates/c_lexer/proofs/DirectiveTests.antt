-- Whether a line marker or a pragma stands between two offsets.
use Rattle.std.proofs.Common.{◌≡◌, ℕ, suc, zero, ◌+◌, ◌-◌, ◌<◌, ◌≤◌, ◌⊎◌, List, Option, Some, None, codes, length, slice_index, slice_range, refl, arith, inl, inr}
use Rattle.std.proofs.lemmas.Bool.{cases_eq}
use Rattle.c_lexer.specs.Bytes.{double_quote, number_sign, IsDigit}
use Rattle.c_lexer.specs.Lines.{AreLineBlanks, OnOneLine, BeginsLine, EndsLine}
use Rattle.c_lexer.specs.Literals.{IsQuoted}
use Rattle.c_lexer.specs.Directives.{IsGap, IsLineNumber, IsFileName, IsFilePart, AreFlags, none, flag, IsMarkerOf, IsLineMarker, IsPragma, digits_value, max_line}
use Rattle.c_lexer.proofs.ClassTests.{digit_or_not}
use Rattle.c_lexer.proofs.Decisions.{Decided, decided_by, both_or_not, either_or_not, most_or_not, less_or_not, same_or_not, each_or_not, some_or_not}
use Rattle.c_lexer.proofs.Lines.{inside}
use Rattle.c_lexer.proofs.LineTests.{blanks_or_not, one_line_or_not, ends_line_or_not, begins_line_or_not}
use Rattle.c_lexer.proofs.LiteralTests.{quoted_or_not}

-- ---- Parts of a line marker

-- a gap stands between the offsets or not
gap_or_not : (bytes : List ℕ) (from to : ℕ) → Decided (IsGap bytes from to)
gap_or_not bytes from to =
    decided_by ((from < to) × AreLineBlanks bytes from to) (IsGap bytes from to)
    (λ g. record { some = g.0; blanks = g.1 }) (λ g. (g.some, g.blanks))
    (both_or_not _ _ (less_or_not from to) (λ some. blanks_or_not bytes from to))

-- a gap begins within the text
gap_within : (bytes : List ℕ) (from to : ℕ) → IsGap bytes from to → from < length bytes
gap_within bytes from to g = inside bytes from (let b = (g.blanks from (omega arith) g.some).0 in grind arith)

-- the number of a line stands between the offsets
abbrev HasNumber : List ℕ → ℕ → ℕ → Type 0
HasNumber bytes from to = (line : ℕ) × IsLineNumber bytes from to line

-- such a number or none
line_number_or_not : (bytes : List ℕ) (from to : ℕ) → Decided (HasNumber bytes from to)
line_number_or_not bytes from to =
    decided_by ((from < to) × (((i : ℕ) → from ≤ i → i < to → IsDigit (slice_index bytes i)) × (digits_value 0 (slice_range bytes from to) ≤ max_line))) (HasNumber bytes from to)
    (λ n. (digits_value 0 (slice_range bytes from to), record { some = n.0; digits = n.1.0; value = refl; small = n.1.1 }))
    (λ n. let line = n.1 in (line.some, (line.digits, rw line.value line.small)))
    (both_or_not _ _ (less_or_not from to) (λ some.
    both_or_not _ _ (each_or_not (λ i. IsDigit (slice_index bytes i)) (λ i. digit_or_not (slice_index bytes i)) from to) (λ digits.
    most_or_not (digits_value 0 (slice_range bytes from to)) max_line)))

-- it ends within the text
number_within : (bytes : List ℕ) (from to : ℕ) → HasNumber bytes from to → (from < length bytes) × (to ≤ length bytes)
number_within bytes from to n =
    let some = n.1.some in
    let first = n.1.digits from (omega arith) some in
    let last = n.1.digits (to - 1) (omega arith) (omega arith) in
    let end = inside bytes (to - 1) (omega arith) in
    (inside bytes from (omega arith), omega arith)

-- the name of a file stands between the offsets or not
file_name_or_not : (bytes : List ℕ) (from to : ℕ) → Decided ((name : List ℕ) × IsFileName bytes from to name)
file_name_or_not bytes from zero = inr (λ n. let end = n.1.end in omega arith)
file_name_or_not bytes from (suc closing) =
    decided_by _ ((name : List ℕ) × IsFileName bytes from (suc closing) name)
    (λ s. (slice_range bytes (s.0 + 1) closing, record { opening = s.0; closing = closing; gap = s.1.0; quoted = s.1.1; end = omega arith; name_is = refl }))
    (λ n. let file = n.1 in let end = file.end in let last : file.closing ≡ closing = omega arith in (file.opening, (file.gap, rw last at file.quoted)))
    (some_or_not (λ opening. IsGap bytes from opening × IsQuoted bytes double_quote opening closing)
    (λ opening. both_or_not _ _ (gap_or_not bytes from opening) (λ gap. quoted_or_not bytes double_quote opening closing))
    (length bytes) (λ opening s. let quote = s.1.opens in inside bytes opening (omega arith)))

-- nothing or the name of a file stands between the offsets
abbrev HasFilePart : List ℕ → ℕ → ℕ → Type 0
HasFilePart bytes from to = (file : Option (List ℕ)) × IsFilePart bytes from to file

-- such a part is nothing or a name
part_of : (bytes : List ℕ) (from to : ℕ) → HasFilePart bytes from to → (from ≡ to) ⊎ ((name : List ℕ) × IsFileName bytes from to name)
part_of bytes from to (None, part) = inl part
part_of bytes from to (Some name, part) = inr (name, part)

-- it stands there or not
file_part_or_not : (bytes : List ℕ) (from to : ℕ) → Decided (HasFilePart bytes from to)
file_part_or_not bytes from to =
    decided_by _ (HasFilePart bytes from to) (λ p. elim p [ inl e ↦ (None, e) | inr name ↦ (Some name.0, name.1) ]) (part_of bytes from to)
    (either_or_not _ _ (cases_eq from to) (file_name_or_not bytes from to))

-- it ends within the text
file_within : (bytes : List ℕ) (from to : ℕ) → from ≤ length bytes → (file : Option (List ℕ)) → IsFilePart bytes from to file → to ≤ length bytes
file_within bytes from to within None part = omega arith
file_within bytes from to within (Some name) part =
    let quote = part.quoted.closes in
    let last = inside bytes part.closing (omega arith) in
    let end = part.end in
    omega arith

-- ---- Flags

-- a flag stands there, and then the rest
abbrev HasFlag : List ℕ → ℕ → ℕ → Type 0
HasFlag bytes from to =
    (digit : ℕ) × (IsGap bytes from digit × ((49 ≤ slice_index bytes digit) × ((slice_index bytes digit ≤ 52) × AreFlags bytes (digit + 1) to)))

-- nothing makes flags, and so does a flag with the rest
of_form : (bytes : List ℕ) (from to : ℕ) → (from ≡ to) ⊎ HasFlag bytes from to → AreFlags bytes from to
of_form bytes from to (inl e) = rw e none
of_form bytes from to (inr f) = flag f.1.0 f.1.1.0 f.1.1.1.0 f.1.1.1.1

-- and flags are one of the two
form_of : (bytes : List ℕ) (from to : ℕ) → AreFlags bytes from to → (from ≡ to) ⊎ HasFlag bytes from to
form_of bytes from to none = inl refl
form_of bytes from to (flag {digit = digit} gap low high rest) = inr (digit, (gap, (low, (high, rest))))

-- flags stand between the offsets, of which the first is at most n before the end of the text, or not
flags_or_not : (bytes : List ℕ) (n from to : ℕ) → length bytes ≤ from + n → Decided (AreFlags bytes from to)
flags_or_not bytes zero from to l =
    decided_by (from ≡ to) (AreFlags bytes from to) (λ e. rw e none)
    (λ f. elim (form_of bytes from to f) [ inl e ↦ e | inr some ↦ absurd (let w = gap_within bytes from some.0 some.1.0 in omega arith) ])
    (cases_eq from to)
flags_or_not bytes (suc n) from to l =
    decided_by ((from ≡ to) ⊎ HasFlag bytes from to) (AreFlags bytes from to) (of_form bytes from to) (form_of bytes from to)
    (either_or_not _ _ (cases_eq from to)
    (some_or_not (λ digit. IsGap bytes from digit × ((49 ≤ slice_index bytes digit) × ((slice_index bytes digit ≤ 52) × AreFlags bytes (digit + 1) to)))
    (λ digit. both_or_not _ _ (gap_or_not bytes from digit) (λ gap.
    both_or_not _ _ (most_or_not 49 (slice_index bytes digit)) (λ low.
    both_or_not _ _ (most_or_not (slice_index bytes digit) 52) (λ high.
    flags_or_not bytes n (digit + 1) to (let behind = gap.some in omega arith)))))
    (length bytes) (λ digit f. let low = f.1.0 in inside bytes digit (omega arith))))

-- ---- Line markers

-- what may stand behind the number of a line stands there
abbrev HasRest : List ℕ → ℕ → ℕ → Type 0
HasRest bytes past to = (flags : ℕ) × (HasFilePart bytes past flags × AreFlags bytes flags to)

-- such a rest or none
rest_or_not : (bytes : List ℕ) (past to : ℕ) → past ≤ length bytes → Decided (HasRest bytes past to)
rest_or_not bytes past to within =
    some_or_not (λ flags. HasFilePart bytes past flags × AreFlags bytes flags to)
    (λ flags. both_or_not _ _ (file_part_or_not bytes past flags) (λ part. flags_or_not bytes (length bytes) flags to (omega arith)))
    (length bytes + 1) (λ flags r. let w = file_within bytes past flags within r.0.0 r.0.1 in omega arith)

-- what stands behind the gap of a line marker
abbrev HasTail : List ℕ → ℕ → ℕ → Type 0
HasTail bytes number to = (past : ℕ) × (HasNumber bytes number past × HasRest bytes past to)

-- such a tail or none
tail_or_not : (bytes : List ℕ) (number to : ℕ) → Decided (HasTail bytes number to)
tail_or_not bytes number to =
    some_or_not (λ past. HasNumber bytes number past × HasRest bytes past to)
    (λ past. both_or_not _ _ (line_number_or_not bytes number past) (λ n. rest_or_not bytes past to (number_within bytes number past n).1))
    (length bytes + 1) (λ past t. let w = number_within bytes number past t.0 in omega arith)

-- what stands behind the sign of a line marker
abbrev HasLine : List ℕ → ℕ → ℕ → Type 0
HasLine bytes from to = (number : ℕ) × (IsGap bytes (from + 1) number × HasTail bytes number to)

-- such a line or none
line_or_not : (bytes : List ℕ) (from to : ℕ) → Decided (HasLine bytes from to)
line_or_not bytes from to =
    some_or_not (λ number. IsGap bytes (from + 1) number × HasTail bytes number to)
    (λ number. both_or_not _ _ (gap_or_not bytes (from + 1) number) (λ gap. tail_or_not bytes number to))
    (length bytes) (λ number t. (number_within bytes number t.1.0 t.1.1.0).0)

-- the parts of a line marker make one
marker_of : (bytes : List ℕ) (from to : ℕ) → BeginsLine bytes from → slice_index bytes from ≡ number_sign → EndsLine bytes to → HasLine bytes from to → IsLineMarker bytes from to
marker_of bytes from to begins sign ends l =
    let tail = l.1.1 in
    let rest = tail.1.1 in (
      tail.1.0.0,
      rest.1.0.0,
      record {
        begins_line = begins;
        sign = sign;
        number = l.0;
        gap = l.1.0;
        past = tail.0;
        line_number = tail.1.0.1;
        flags = rest.0;
        file_part = rest.1.0.1;
        flagged = rest.1.1;
        ends_line = ends;
      },
    )

-- and a line marker has them
line_of : (bytes : List ℕ) (from to line : ℕ) (file : Option (List ℕ)) → IsMarkerOf bytes from to line file → HasLine bytes from to
line_of bytes from to line file m = (m.number, (m.gap, (m.past, ((line, m.line_number), (m.flags, ((file, m.file_part), m.flagged))))))

-- a line marker stands between the offsets or not
pub marker_or_not : (bytes : List ℕ) (from to : ℕ) → Decided (IsLineMarker bytes from to)
marker_or_not bytes from to =
    decided_by (BeginsLine bytes from × ((slice_index bytes from ≡ number_sign) × (EndsLine bytes to × HasLine bytes from to))) (IsLineMarker bytes from to)
    (λ p. marker_of bytes from to p.0 p.1.0 p.1.1.0 p.1.1.1)
    (λ m. (m.2.begins_line, (m.2.sign, (m.2.ends_line, line_of bytes from to m.0 m.1 m.2))))
    (both_or_not _ _ (begins_line_or_not bytes from) (λ begins.
    both_or_not _ _ (cases_eq (slice_index bytes from) number_sign) (λ sign.
    both_or_not _ _ (ends_line_or_not bytes to) (λ ends.
    line_or_not bytes from to))))

-- ---- Pragmas

-- the word of a pragma stands at the offset, behind blanks, and its line goes on to the end
record HasWord (bytes : List ℕ) (from to word : ℕ) : Type 0 where
  behind : from + 1 ≤ word
  past : word + 6 ≤ to
  blanks : AreLineBlanks bytes (from + 1) word
  pragma : slice_range bytes word (word + 6) ≡ codes "pragma"
  one_line : OnOneLine bytes (word + 6) to

-- such a word or none
pragma_word_or_not : (bytes : List ℕ) (from to word : ℕ) → Decided (HasWord bytes from to word)
pragma_word_or_not bytes from to word =
    decided_by ((from + 1 ≤ word) × ((word + 6 ≤ to) × (AreLineBlanks bytes (from + 1) word × ((slice_range bytes word (word + 6) ≡ codes "pragma") × OnOneLine bytes (word + 6) to)))) (HasWord bytes from to word)
    (λ w. record { behind = w.0; past = w.1.0; blanks = w.1.1.0; pragma = w.1.1.1.0; one_line = w.1.1.1.1 })
    (λ w. (w.behind, (w.past, (w.blanks, (w.pragma, w.one_line)))))
    (both_or_not _ _ (most_or_not (from + 1) word) (λ behind.
    both_or_not _ _ (most_or_not (word + 6) to) (λ past.
    both_or_not _ _ (blanks_or_not bytes (from + 1) word) (λ blanks.
    both_or_not _ _ (same_or_not (slice_range bytes word (word + 6)) (codes "pragma")) (λ pragma.
    one_line_or_not bytes (word + 6) to)))))

-- a pragma stands between the offsets or not
pub pragma_or_not : (bytes : List ℕ) (from to : ℕ) → Decided (IsPragma bytes from to)
pragma_or_not bytes from to =
    decided_by (BeginsLine bytes from × ((slice_index bytes from ≡ number_sign) × (EndsLine bytes to × ((word : ℕ) × HasWord bytes from to word)))) (IsPragma bytes from to)
    (λ p.
    let word = p.1.1.1 in
    record {
      begins_line = p.0;
      sign = p.1.0;
      word = word.0;
      behind = word.1.behind;
      blanks = word.1.blanks;
      pragma = word.1.pragma;
      past = word.1.past;
      one_line = word.1.one_line;
      ends_line = p.1.1.0;
    })
    (λ p. (p.begins_line, (p.sign, (p.ends_line, (p.word, record { behind = p.behind; past = p.past; blanks = p.blanks; pragma = p.pragma; one_line = p.one_line })))))
    (both_or_not _ _ (begins_line_or_not bytes from) (λ begins.
    both_or_not _ _ (cases_eq (slice_index bytes from) number_sign) (λ sign.
    both_or_not _ _ (ends_line_or_not bytes to) (λ ends.
    some_or_not (HasWord bytes from to) (pragma_word_or_not bytes from to) to (λ word w. let past = w.past in omega arith)))))
