-- A part of a text is of one kind.
use Rattle.std.proofs.Common.{◌≡◌, ℕ, ◌+◌, ◌-◌, ◌<◌, ◌≤◌, ◌⊎◌, ◌==◌, ◌&&◌, ◌||◌, List, length, slice_index, slice_range, refl, ap, sym, ◌∙◌, arith, inl, inr, if◌then◌else◌}
use Rattle.std.proofs.lemmas.Bool.{cases_lt}
use Rattle.std.proofs.lemmas.Bool.Decides.{nat_tests}
use Rattle.std.proofs.lemmas.List.{get_or_past}
use Rattle.c_lexer.specs.Bytes.{IsLetter, IsDigit, IsWordByte, full_stop, number_sign, single_quote, double_quote}
use Rattle.c_lexer.specs.Spelling.{Spells, IsName}
use Rattle.c_lexer.specs.declared.token.Kind.{Kind}
use Rattle.c_lexer.specs.declared.token.Kind.TheVariants.{Word, Key, Number, Char, Text, Mark, Line, Pragma}
use Rattle.c_lexer.proofs.Parts.{part_length, part_at, part_offset}
use Rattle.c_lexer.proofs.Classes.{is_letter, is_digit}
use Rattle.c_lexer.proofs.Tables.{keyword_name, keyword_once}
use Rattle.c_lexer.specs.Numbers.{IsNumber}
use Rattle.c_lexer.proofs.Marks.{IsFirst, IsMarkText, mark_text, mark_once}
use Rattle.c_lexer.proofs.Numbers.{number_first, number_byte}
use Rattle.c_lexer.proofs.Literals.{literal_last}
use Rattle.c_lexer.proofs.Directives.{marker_no_pragma}
use Rattle.c_lexer.proofs.Firsts.{first_of_kind}

-- The sort of a part, by its first, second and last byte: 0 a line with `#`, 1 a character constant, 2 a string
-- literal, 3 a name, 4 a number, 5 a mark.
abbrev sort_by : ℕ → ℕ → ℕ → ℕ
sort_by first second last =
    if first == 35 then 0
    else if last == 39 then 1
    else if last == 34 then 2
    else if is_letter first then 3
    else if is_digit first || ((first == 46) && is_digit second) then 4
    else 5

-- the sort of a kind
abbrev sort_of : Kind → ℕ
sort_of Word = 3
sort_of (Key number) = 3
sort_of Number = 4
sort_of Char = 1
sort_of Text = 2
sort_of (Mark number) = 5
sort_of Line = 0
sort_of Pragma = 0

-- a name has its sort
name_sort : (first second last : ℕ) → IsLetter first → IsWordByte last → sort_by first second last ≡ 3
name_sort first second last f l = grind (arith, nat_tests)

-- so has a number
number_sort : (first second last : ℕ) → IsDigit first ⊎ ((first ≡ full_stop) × IsDigit second) → (last ≡ single_quote → ⊥) → (last ≡ double_quote → ⊥) → sort_by first second last ≡ 4
number_sort first second last f a b = grind (arith, nat_tests)

-- and a character constant
char_sort : (first second last : ℕ) → (first ≡ single_quote) ⊎ IsLetter first → last ≡ single_quote → sort_by first second last ≡ 1
char_sort first second last f l = grind (arith, nat_tests)

-- and a string literal
text_sort : (first second last : ℕ) → (first ≡ double_quote) ⊎ IsLetter first → last ≡ double_quote → sort_by first second last ≡ 2
text_sort first second last f l = grind (arith, nat_tests)

-- and a mark
mark_sort : (first second last : ℕ) → IsFirst first → (IsDigit second → ⊥) → (last ≡ single_quote → ⊥) → (last ≡ double_quote → ⊥) → sort_by first second last ≡ 5
mark_sort first second last f s a b =
    let letter = f.no_letter in
    let digit = f.no_digit in
    let sign = f.no_sign in
    grind (arith, nat_tests)

-- and a line with `#`
line_sort : (first second last : ℕ) → first ≡ number_sign → sort_by first second last ≡ 0
line_sort first second last f = grind (arith, nat_tests)

-- the sort of the part between two offsets; a second byte that is not there counts as 0
abbrev sort_at : List ℕ → ℕ → ℕ → ℕ
sort_at bytes from to = sort_by (slice_index bytes from) (slice_index (slice_range bytes from to) 1) (slice_index bytes (to - 1))

-- the last byte of a part, in the part
last_of : (bytes : List ℕ) (from to : ℕ) → from < to → slice_index (slice_range bytes from to) (to - 1 - from) ≡ slice_index bytes (to - 1)
last_of bytes from to h = part_offset bytes from to (to - 1) (omega arith) (omega arith)

-- a name's last byte is a word byte
name_last : (bytes : List ℕ) (from to : ℕ) → from < to → to ≤ length bytes → IsName (slice_range bytes from to) → IsWordByte (slice_index bytes (to - 1))
name_last bytes from to h w n = let l = part_length bytes from to w in rw (last_of bytes from to h) at (n.each (to - 1 - from) (omega (arith, l)))

-- a number's first bytes, as those of its part
number_begins : (bytes : List ℕ) (from to : ℕ) → from < to → IsNumber bytes from to → IsDigit (slice_index bytes from) ⊎ ((slice_index bytes from ≡ full_stop) × IsDigit (slice_index (slice_range bytes from to) 1))
number_begins bytes from to h n = elim (number_first bytes from to n h) [
  | inl digit ↦ inl digit
  | inr point ↦ let l : from + 1 < to = point.1 in inr (point.0, rw (part_at bytes from to 1 l) point.2)
]

-- a mark's second byte is no digit
mark_no_digit : (text : List ℕ) → IsMarkText text → IsDigit (slice_index text 1) → ⊥
mark_no_digit text m digit = elim (cases_lt 1 (length text)) [
  | inl l ↦ let second = m.second (omega arith) in grind arith
  | inr l ↦ let past : slice_index text 1 ≡ 0 = get_or_past text 1 0 l in omega (arith, past)
]

-- a part has the sort of the kind that it spells
sort_is : (bytes : List ℕ) (from to : ℕ) (kind : Kind) → from < to → to ≤ length bytes → Spells bytes from to kind → sort_at bytes from to ≡ sort_of kind
sort_is bytes from to Word h w s = name_sort (slice_index bytes from) (slice_index (slice_range bytes from to) 1) (slice_index bytes (to - 1)) (first_of_kind bytes from to Word h w s) (name_last bytes from to h w s.name)
sort_is bytes from to (Key k) h w s = name_sort (slice_index bytes from) (slice_index (slice_range bytes from to) 1) (slice_index bytes (to - 1)) (first_of_kind bytes from to (Key k) h w s) (name_last bytes from to h w (keyword_name _ k s))
sort_is bytes from to Number h w s =
    let last = number_byte bytes from (to - 1) (s.each (to - 1) (omega arith) (omega arith)) in
    number_sort (slice_index bytes from) (slice_index (slice_range bytes from to) 1) (slice_index bytes (to - 1)) (number_begins bytes from to h s) last.no_single last.no_double
sort_is bytes from to Char h w s = char_sort (slice_index bytes from) (slice_index (slice_range bytes from to) 1) (slice_index bytes (to - 1)) (first_of_kind bytes from to Char h w s) (literal_last _ _ bytes from to s.literal).last
sort_is bytes from to Text h w s = text_sort (slice_index bytes from) (slice_index (slice_range bytes from to) 1) (slice_index bytes (to - 1)) (first_of_kind bytes from to Text h w s) (literal_last _ _ bytes from to s).last
sort_is bytes from to (Mark k) h w s =
    let m = mark_text _ k s.mark in
    let l = part_length bytes from to w in
    let last = rw (last_of bytes from to h) at (m.each (to - 1 - from) (omega (arith, l))) in
    mark_sort (slice_index bytes from) (slice_index (slice_range bytes from to) 1) (slice_index bytes (to - 1)) (first_of_kind bytes from to (Mark k) h w s) (mark_no_digit _ m) last.no_single last.no_double
sort_is bytes from to Line h w s = line_sort (slice_index bytes from) (slice_index (slice_range bytes from to) 1) (slice_index bytes (to - 1)) s.2.sign
sort_is bytes from to Pragma h w s = line_sort (slice_index bytes from) (slice_index (slice_range bytes from to) 1) (slice_index bytes (to - 1)) s.sign

-- kinds of one sort that one part spells are one kind
same_kind : (bytes : List ℕ) (from to : ℕ) (k j : Kind) → sort_of k ≡ sort_of j → Spells bytes from to k → Spells bytes from to j → k ≡ j
same_kind bytes from to Word Word e h g = refl
same_kind bytes from to Word (Key j) e h g = absurd (h.no_keyword j g)
same_kind bytes from to (Key k) Word e h g = absurd (g.no_keyword k h)
same_kind bytes from to (Key k) (Key j) e h g = ap Key (keyword_once _ k j h g)
same_kind bytes from to Number Number e h g = refl
same_kind bytes from to Char Char e h g = refl
same_kind bytes from to Text Text e h g = refl
same_kind bytes from to (Mark k) (Mark j) e h g = ap Mark (mark_once _ k j h.mark g.mark)
same_kind bytes from to Line Line e h g = refl
same_kind bytes from to Pragma Pragma e h g = refl
same_kind bytes from to Line Pragma e h g = absurd (marker_no_pragma bytes from to to h.0 h.1 h.2 g)
same_kind bytes from to Pragma Line e h g = absurd (marker_no_pragma bytes from to to g.0 g.1 g.2 h)
same_kind bytes from to k j e h g = absurd (omega (arith, e))

-- a part is of one kind
pub one_kind : (bytes : List ℕ) (from to : ℕ) (k j : Kind) → from < to → to ≤ length bytes → Spells bytes from to k → Spells bytes from to j → k ≡ j
one_kind bytes from to k j a b h g =
    let same : sort_of k ≡ sort_of j = sym (sort_is bytes from to k a b h) ∙ sort_is bytes from to j a b g in
    same_kind bytes from to k j same h g
