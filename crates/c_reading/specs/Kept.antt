-- The kept tokens of a file, as the grammar sees them.

use Rattle.std.specs.Prelude.{ℕ, ◌+◌, List, [], ◌∷◌, map, slice_range}
use Rattle.c_lexer.specs.declared.token.Token.{Token}
use Rattle.c_lexer.specs.Lexemes.{Lexeme}
use Rattle.line_marks.specs.Kept.{items_at}

-- What is seen of a token of the text.
abbrev pub lexeme_in : List ℕ → Token → Lexeme
lexeme_in bytes token =
    record { kind = token.kind; spelling = slice_range bytes token.start token.end }

-- The lexemes at the positions.
abbrev pub kept_lexemes : List ℕ → List Token → List ℕ → List Lexeme
kept_lexemes bytes tokens kept = map (lexeme_in bytes) (items_at tokens kept)

-- A lexeme with the number of its token among the kept ones.
pub record KeptToken : Type 0 where
  pub number : ℕ
  pub lexeme : Lexeme

-- The lexemes with their numbers, from this one on.
abbrev pub numbered : ℕ → List Lexeme → List KeptToken
numbered number [] = []
numbered number (lexeme ∷ lexemes) =
    record { number = number; lexeme = lexeme } ∷ numbered (number + 1) lexemes
