-- Which tokens a part of a text spells (C11 6.4).

use Rattle.std.specs.Prelude.{ℕ, ◌<◌, List, length, slice_index, slice_range}
use Rattle.std.specs.List.{EachIndex}
use Rattle.c_lexer.specs.declared.token.Kind.{Kind}
use Rattle.c_lexer.specs.declared.token.Kind.TheVariants.{Word, Key, Number, Char}
use Rattle.c_lexer.specs.declared.token.Kind.TheVariants.{Text, Mark, Line, Pragma}
use Rattle.c_lexer.specs.Bytes.{IsLetter, IsWordByte}
use Rattle.c_lexer.specs.Keywords.{IsKeyword}
use Rattle.c_lexer.specs.Numbers.{IsNumber}
use Rattle.c_lexer.specs.Literals.{IsChar, IsText}
use Rattle.c_lexer.specs.Marks.{IsMarkAt}
use Rattle.c_lexer.specs.Directives.{IsLineMarker, IsPragma}

-- A letter or `_`, and then letters, digits and `_` (6.4.2.1). Ours: universal character names are
-- not read.
pub record IsName (text : List ℕ) : Type 0 where
  pub some : 0 < length text
  pub first : IsLetter (slice_index text 0)
  pub each : EachIndex text (λ i. IsWordByte (slice_index text i))

-- A name is a word where it is no keyword (6.4.1p2).
pub record IsWord (text : List ℕ) : Type 0 where
  pub name : IsName text
  pub no_keyword : (number : ℕ) → ¬ IsKeyword text number

-- The bytes from `from` to before `to` spell a token of the kind (6.4p1).
abbrev pub Spells : List ℕ → ℕ → ℕ → Kind → Type 0
Spells bytes from to Word = IsWord (slice_range bytes from to)
Spells bytes from to (Key number) = IsKeyword (slice_range bytes from to) number
Spells bytes from to Number = IsNumber bytes from to
Spells bytes from to Char = IsChar bytes from to
Spells bytes from to Text = IsText bytes from to
Spells bytes from to (Mark number) = IsMarkAt bytes from to number
Spells bytes from to Line = IsLineMarker bytes from to
Spells bytes from to Pragma = IsPragma bytes from to
