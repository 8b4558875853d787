-- Whether a byte or a text is of a class.
use Rattle.std.proofs.Common.{ℕ, List, length, slice_index, arith}
use Rattle.c_lexer.specs.Bytes.{IsBlank, IsLineBlank, IsLetter, IsDigit, IsWordByte, IsExponent, IsSign}
use Rattle.c_lexer.specs.Spelling.{IsName}
use Rattle.c_lexer.proofs.Decisions.{Decided, decided_by, both_or_not, less_or_not, each_or_not}

-- a byte is a blank or not
pub blank_or_not : (byte : ℕ) → Decided (IsBlank byte)
blank_or_not byte = grind arith

-- it is a blank of a line or not
pub line_blank_or_not : (byte : ℕ) → Decided (IsLineBlank byte)
line_blank_or_not byte = grind arith

-- it is a letter or not
letter_or_not : (byte : ℕ) → Decided (IsLetter byte)
letter_or_not byte = grind arith

-- it is a digit or not
pub digit_or_not : (byte : ℕ) → Decided (IsDigit byte)
digit_or_not byte = grind arith

-- it may stand in a word after the first byte or not
pub word_byte_or_not : (byte : ℕ) → Decided (IsWordByte byte)
word_byte_or_not byte = grind arith

-- it is an exponent's letter or not
pub exponent_or_not : (byte : ℕ) → Decided (IsExponent byte)
exponent_or_not byte = grind arith

-- it is a sign or not
pub sign_or_not : (byte : ℕ) → Decided (IsSign byte)
sign_or_not byte = grind arith

-- a text is a name or not
pub name_or_not : (text : List ℕ) → Decided (IsName text)
name_or_not text =
    decided_by _ (IsName text)
    (λ n. record { some = n.0; first = n.1.0; each = λ i l. n.1.1 i (omega arith) l })
    (λ n. (n.some, (n.first, λ i low high. n.each i high)))
    (both_or_not _ _ (less_or_not 0 (length text)) (λ some.
    both_or_not _ _ (letter_or_not (slice_index text 0)) (λ first.
    each_or_not (λ i. IsWordByte (slice_index text i)) (λ i. word_byte_or_not (slice_index text i)) 0 (length text))))
