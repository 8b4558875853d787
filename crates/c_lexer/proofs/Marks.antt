-- Punctuators.
use Rattle.std.proofs.Common.{◌≡◌, ℕ, ◌+◌, ◌-◌, ◌<◌, ◌≤◌, ◌==◌, ◌&&◌, ◌||◌, not, Bool, true, List, length, slice_index, slice_range, refl, arith, nat_le, inl, inr}
use Rattle.std.specs.List.{list_all}
use Rattle.std.proofs.lemmas.Bool.{and_parts, cases_lt, leb-true}
use Rattle.std.proofs.lemmas.Bool.Decides.{nat_tests}
use Rattle.std.proofs.lemmas.List.Sums.{AllPass-from_list_all}
use Rattle.c_lexer.specs.Bytes.{line_feed, double_quote, number_sign, single_quote, IsLetter, IsDigit, IsBlank}
use Rattle.c_lexer.specs.Lines.{OnOneLine}
use Rattle.c_lexer.specs.Entries.{numbers_of}
use Rattle.c_lexer.specs.Marks.{marks, IsMark, IsMarkAt}
use Rattle.c_lexer.specs.Scanning.{IsSecond}
use Rattle.c_lexer.proofs.Parts.{part_length, part_at, part_offset}
use Rattle.c_lexer.proofs.Tables.{agree, one_number, row_passes}

-- the rows of marks of one spelling have one number
marks_agree : agree (numbers_of marks) ≡ true
unfolding marks
marks_agree = refl

-- a mark has one number
pub mark_once : (text : List ℕ) (k j : ℕ) → IsMark text k → IsMark text j → k ≡ j
mark_once = one_number (numbers_of marks) marks_agree

-- a byte of a mark ends no line and is no quote
pub record IsInMark (byte : ℕ) : Type 0 where
  pub no_feed : byte ≡ line_feed → ⊥
  pub no_double : byte ≡ double_quote → ⊥
  pub no_single : byte ≡ single_quote → ⊥

-- the first byte of a mark begins no word, no literal and no directive, and is no digit and no blank
pub record IsFirst (byte : ℕ) : Type 0 where
  pub no_letter : IsLetter byte → ⊥
  pub no_digit : IsDigit byte → ⊥
  pub no_blank : IsBlank byte → ⊥
  pub no_double : byte ≡ double_quote → ⊥
  pub no_single : byte ≡ single_quote → ⊥
  pub no_sign : byte ≡ number_sign → ⊥

-- whether a byte may stand in a mark
abbrev is_in_mark : ℕ → Bool
is_in_mark byte = (nat_le 33 byte && nat_le byte 126) && not ((byte == 34) || (byte == 39))

-- whether it may be the first
abbrev is_first : ℕ → Bool
is_first byte =
    ((nat_le 33 byte && nat_le byte 47) || (nat_le 58 byte && nat_le byte 64) || (nat_le 91 byte && nat_le byte 94) || (nat_le 123 byte && nat_le byte 126))
    && not ((byte == 34) || (byte == 39) || (byte == 35))

-- whether it may be the second
abbrev is_second : ℕ → Bool
is_second byte =
    (byte == 37) || (byte == 38) || (byte == 43) || (byte == 45) || (byte == 46) || (byte == 58) || (byte == 60) || (byte == 61)
    || (byte == 62) || (byte == 124)

-- what passes the test of a byte of a mark is one
in_mark_is : (byte : ℕ) → is_in_mark byte ≡ true → IsInMark byte
in_mark_is byte h = record {
  no_feed = λ e. grind (arith, nat_tests);
  no_double = λ e. grind (arith, nat_tests);
  no_single = λ e. grind (arith, nat_tests);
}

-- and what passes the test of a first byte
first_is : (byte : ℕ) → is_first byte ≡ true → IsFirst byte
first_is byte h = record {
  no_letter = λ l. grind (arith, nat_tests);
  no_digit = λ d. grind (arith, nat_tests);
  no_blank = λ b. grind (arith, nat_tests);
  no_double = λ e. grind (arith, nat_tests);
  no_single = λ e. grind (arith, nat_tests);
  no_sign = λ e. grind (arith, nat_tests);
}

-- and of a second one
second_is : (byte : ℕ) → is_second byte ≡ true → IsSecond byte
second_is byte h = grind (arith, nat_tests)

-- the test that each mark of the list passes
abbrev is_mark_text : List ℕ → Bool
is_mark_text text =
    (nat_le 1 (length text) && nat_le (length text) 3)
    && ((is_first (slice_index text 0) && list_all is_in_mark text)
    && (nat_le (length text) 1 || is_second (slice_index text 1)))

-- each mark passes the test
all_marks : list_all (λ row. is_mark_text row.0) (numbers_of marks) ≡ true
unfolding marks
all_marks = refl

-- how the text of a mark looks
pub record IsMarkText (text : List ℕ) : Type 0 where
  pub some : 1 ≤ length text
  pub short : length text ≤ 3
  pub first : IsFirst (slice_index text 0)
  pub each : (i : ℕ) → i < length text → IsInMark (slice_index text i)
  pub second : 2 ≤ length text → IsSecond (slice_index text 1)

-- what passes the test looks as a mark does
mark_text_is : (text : List ℕ) → is_mark_text text ≡ true → IsMarkText text
mark_text_is text h =
    let p = and_parts (nat_le 1 (length text) && nat_le (length text) 3) ((is_first (slice_index text 0) && list_all is_in_mark text) && (nat_le (length text) 1 || is_second (slice_index text 1))) h in
    let size = and_parts (nat_le 1 (length text)) (nat_le (length text) 3) p.0 in
    let q = and_parts (is_first (slice_index text 0) && list_all is_in_mark text) (nat_le (length text) 1 || is_second (slice_index text 1)) p.1 in
    let bytes = and_parts (is_first (slice_index text 0)) (list_all is_in_mark text) q.0 in
    record {
      some = leb-true 1 (length text) size.0;
      short = leb-true (length text) 3 size.1;
      first = first_is (slice_index text 0) bytes.0;
      each = λ i l. in_mark_is _ (AllPass-from_list_all is_in_mark text bytes.1 i 0 l);
      second = λ two. second_is (slice_index text 1) (grind (arith, nat_tests, q.1));
    }

-- a mark of the list looks so
pub mark_text : (text : List ℕ) (number : ℕ) → IsMark text number → IsMarkText text
mark_text text number h = mark_text_is text (row_passes (λ row. is_mark_text row.0) (numbers_of marks) all_marks (text, number) h)

-- a mark stands on one line
pub mark_on_one_line : (bytes : List ℕ) (from to number : ℕ) → IsMarkAt bytes from to number → to ≤ length bytes → OnOneLine bytes from to
mark_on_one_line bytes from to number h within i low high =
    let size = part_length bytes from to within in
    let text = mark_text (slice_range bytes from to) number h.mark in
    rw (part_offset bytes from to i low high) at (text.each (i - from) (omega (arith, size))).no_feed

-- no mark of the list stands between the offsets
abbrev pub NoMark : List ℕ → ℕ → ℕ → Type 0
NoMark bytes from to = (number : ℕ) → IsMark (slice_range bytes from to) number → ⊥

-- no mark of the list that begins at the first offset ends past the second
abbrev pub NoneLonger : List ℕ → ℕ → ℕ → Type 0
NoneLonger bytes from end = (number past : ℕ) → end < past → past ≤ length bytes → IsMark (slice_range bytes from past) number → ⊥

-- what stands between the offsets ends within three bytes, and a second byte is one that marks may have
pub record IsReach (bytes : List ℕ) (from to : ℕ) : Type 0 where
  pub near : to ≤ from + 3
  pub second : from + 2 ≤ to → IsSecond (slice_index bytes (from + 1))

-- a mark that stands between the offsets does so
pub mark_reach : (bytes : List ℕ) (from to number : ℕ) → to ≤ length bytes → IsMark (slice_range bytes from to) number → IsReach bytes from to
mark_reach bytes from to number within h =
    let size = part_length bytes from to within in
    let text = mark_text (slice_range bytes from to) number h in
    record {
      near = omega (arith, text.short);
      second = λ two. let place : from + 1 < to = omega arith in rw (part_at bytes from to 1 place) at (text.second (omega arith));
    }

-- no mark is longer than one of three bytes
pub none_past_three : (bytes : List ℕ) (from : ℕ) → NoneLonger bytes from (from + 3)
none_past_three bytes from number past longer within h = let near = (mark_reach bytes from past number within h).near in omega arith

-- none is longer than one of two where none of three stands
pub none_past_two : (bytes : List ℕ) (from : ℕ) → (from + 3 ≤ length bytes → NoMark bytes from (from + 3)) → NoneLonger bytes from (from + 2)
none_past_two bytes from three number past longer within h =
    let near = (mark_reach bytes from past number within h).near in
    let end : past ≡ from + 3 = omega arith in
    three (omega arith) number (rw end at h)

-- none is longer than one of one where none of two and none of three stands
pub none_past_one : (bytes : List ℕ) (from : ℕ) → (from + 3 ≤ length bytes → NoMark bytes from (from + 3)) → (from + 2 ≤ length bytes → NoMark bytes from (from + 2)) → NoneLonger bytes from (from + 1)
none_past_one bytes from three two number past longer within h = elim (cases_lt (from + 2) past) [
  | inl more ↦ none_past_two bytes from three number past more within h
  | inr last ↦ let end : past ≡ from + 2 = omega arith in two (omega arith) number (rw end at h)
]

-- none has two bytes or more where the second is of no mark
pub none_of_two : (bytes : List ℕ) (from : ℕ) → (IsSecond (slice_index bytes (from + 1)) → ⊥) → NoneLonger bytes from (from + 1)
none_of_two bytes from no_second number past longer within h = no_second ((mark_reach bytes from past number within h).second (omega arith))

-- none stands there where none of one byte does and none is longer
pub none_at_all : (bytes : List ℕ) (from : ℕ) → NoMark bytes from (from + 1) → NoneLonger bytes from (from + 1) → NoneLonger bytes from from
none_at_all bytes from one longer number past some within h = elim (cases_lt (from + 1) past) [
  | inl more ↦ longer number past more within h
  | inr last ↦ let end : past ≡ from + 1 = omega arith in one number (rw end at h)
]
