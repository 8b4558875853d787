-- The classes of bytes and of texts as tests.
use Rattle.std.proofs.Common.{◌≡◌, ℕ, ◌==◌, ◌&&◌, ◌||◌, Bool, true, List, length, slice_index, arith, nat_lt, nat_le}
use Rattle.std.specs.List.{list_all}
use Rattle.std.proofs.lemmas.Bool.{and_parts, ltb-true}
use Rattle.std.proofs.lemmas.Bool.Decides.{nat_tests}
use Rattle.std.proofs.lemmas.List.Sums.{AllPass-from_list_all}
use Rattle.c_lexer.specs.Bytes.{IsLetter, IsWordByte}
use Rattle.c_lexer.specs.Spelling.{IsName}

-- whether a byte is a letter or `_`
abbrev pub is_letter : ℕ → Bool
is_letter byte = (nat_le 97 byte && nat_le byte 122) || (nat_le 65 byte && nat_le byte 90) || (byte == 95)

-- whether it is a digit
abbrev pub is_digit : ℕ → Bool
is_digit byte = nat_le 48 byte && nat_le byte 57

-- whether it may stand in a word after the first byte
abbrev is_word_byte : ℕ → Bool
is_word_byte byte = is_letter byte || is_digit byte

-- what passes the test of a letter is one
letter_is : (byte : ℕ) → is_letter byte ≡ true → IsLetter byte
letter_is byte h = grind (arith, nat_tests)

-- and what passes the test of a word's byte
word_byte_is : (byte : ℕ) → is_word_byte byte ≡ true → IsWordByte byte
word_byte_is byte h = grind (arith, nat_tests)

-- whether a text is a name
abbrev pub is_name : List ℕ → Bool
is_name text = nat_lt 0 (length text) && is_letter (slice_index text 0) && list_all is_word_byte text

-- what passes the test of a name is one
pub name_is : (text : List ℕ) → is_name text ≡ true → IsName text
name_is text h =
    let p = and_parts (nat_lt 0 (length text) && is_letter (slice_index text 0)) (list_all is_word_byte text) h in
    let q = and_parts (nat_lt 0 (length text)) (is_letter (slice_index text 0)) p.0 in
    record {
      some = ltb-true _ _ q.0;
      first = letter_is _ q.1;
      each = λ i l. word_byte_is _ (AllPass-from_list_all is_word_byte text p.1 i 0 l);
    }
