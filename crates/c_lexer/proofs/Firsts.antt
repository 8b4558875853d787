-- With which byte a token of a kind begins.
use Rattle.std.proofs.Common.{◌≡◌, ℕ, ◌<◌, ◌≤◌, ◌⊎◌, List, length, slice_index, slice_range, inl, inr, arith}
use Rattle.std.proofs.lemmas.Bool.{cases_lt}
use Rattle.c_lexer.specs.Bytes.{IsLetter, number_sign, single_quote, double_quote}
use Rattle.c_lexer.specs.Numbers.{BeginsNumber}
use Rattle.c_lexer.specs.Spelling.{Spells, IsName}
use Rattle.c_lexer.specs.declared.token.Kind.{Kind}
use Rattle.c_lexer.specs.declared.token.Kind.TheVariants.{Word, Key, Number, Char, Text, Mark, Line, Pragma}
use Rattle.c_lexer.proofs.Parts.{part_first}
use Rattle.c_lexer.proofs.Tables.{keyword_name}
use Rattle.c_lexer.proofs.Marks.{mark_text, IsFirst}
use Rattle.c_lexer.proofs.Literals.{IsForm, char_form, text_form, literal_before}
use Rattle.c_lexer.specs.Literals.{IsLiteral}

-- what the first byte of a token of the kind is
abbrev pub First : List ℕ → ℕ → Kind → Type 0
First bytes from Word = IsLetter (slice_index bytes from)
First bytes from (Key number) = IsLetter (slice_index bytes from)
First bytes from Number = BeginsNumber bytes from
First bytes from Char = (slice_index bytes from ≡ single_quote) ⊎ IsLetter (slice_index bytes from)
First bytes from Text = (slice_index bytes from ≡ double_quote) ⊎ IsLetter (slice_index bytes from)
First bytes from (Mark number) = IsFirst (slice_index bytes from)
First bytes from Line = slice_index bytes from ≡ number_sign
First bytes from Pragma = slice_index bytes from ≡ number_sign

-- a name begins with a letter
name_first : (bytes : List ℕ) (from to : ℕ) → from < to → IsName (slice_range bytes from to) → IsLetter (slice_index bytes from)
name_first bytes from to h n = rw (part_first bytes from to h) at n.first

-- a literal begins with its quote or with a letter
literal_first : (prefixes : List (List ℕ)) (quote : ℕ) (bytes : List ℕ) (from to : ℕ) → IsForm prefixes quote → IsLiteral prefixes quote bytes from to → (slice_index bytes from ≡ quote) ⊎ IsLetter (slice_index bytes from)
literal_first prefixes quote bytes from to form l =
    let before = literal_before prefixes quote bytes from to form l in
    elim (cases_lt from l.opening) [
      | inl h ↦ inr (before.first h)
      | inr h ↦ let same : from ≡ l.opening = omega (arith, l.forward) in inl (rw same l.quoted.opens)
    ]

-- a token of the kind begins so
pub first_of_kind : (bytes : List ℕ) (from to : ℕ) (kind : Kind) → from < to → to ≤ length bytes → Spells bytes from to kind → First bytes from kind
first_of_kind bytes from to Word h w s = name_first bytes from to h s.name
first_of_kind bytes from to (Key k) h w s = name_first bytes from to h (keyword_name _ k s)
first_of_kind bytes from to Number h w s = s.begins
first_of_kind bytes from to Char h w s = literal_first _ _ bytes from to char_form s.literal
first_of_kind bytes from to Text h w s = literal_first _ _ bytes from to text_form s
first_of_kind bytes from to (Mark k) h w s = rw (part_first bytes from to h) at (mark_text _ k s.mark).first
first_of_kind bytes from to Line h w s = s.2.sign
first_of_kind bytes from to Pragma h w s = s.sign
