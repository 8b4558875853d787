-- Punctuators (C11 6.4.6).

use Rattle.std.specs.Prelude.{ℕ, List, [], ◌∷◌, slice_range}
use Rattle.std.specs.List.{Contains}
use Rattle.c_lexer.specs.declared.mark.TheConstants.{MARK_LEFT_BRACKET, MARK_RIGHT_BRACKET}
use Rattle.c_lexer.specs.declared.mark.TheConstants.{MARK_LEFT_PAREN, MARK_RIGHT_PAREN}
use Rattle.c_lexer.specs.declared.mark.TheConstants.{MARK_LEFT_BRACE, MARK_RIGHT_BRACE, MARK_DOT}
use Rattle.c_lexer.specs.declared.mark.TheConstants.{MARK_ARROW, MARK_PLUS_PLUS, MARK_MINUS_MINUS}
use Rattle.c_lexer.specs.declared.mark.TheConstants.{MARK_AMPERSAND, MARK_STAR, MARK_PLUS}
use Rattle.c_lexer.specs.declared.mark.TheConstants.{MARK_MINUS, MARK_TILDE, MARK_EXCLAMATION}
use Rattle.c_lexer.specs.declared.mark.TheConstants.{MARK_SLASH, MARK_PERCENT, MARK_LEFT_SHIFT}
use Rattle.c_lexer.specs.declared.mark.TheConstants.{MARK_RIGHT_SHIFT, MARK_LESS, MARK_GREATER}
use Rattle.c_lexer.specs.declared.mark.TheConstants.{MARK_LESS_EQUAL, MARK_GREATER_EQUAL}
use Rattle.c_lexer.specs.declared.mark.TheConstants.{MARK_EQUAL_EQUAL, MARK_NOT_EQUAL, MARK_CARET}
use Rattle.c_lexer.specs.declared.mark.TheConstants.{MARK_BAR, MARK_AND_AND, MARK_OR_OR}
use Rattle.c_lexer.specs.declared.mark.TheConstants.{MARK_QUESTION, MARK_COLON, MARK_SEMICOLON}
use Rattle.c_lexer.specs.declared.mark.TheConstants.{MARK_ELLIPSIS, MARK_EQUAL, MARK_STAR_EQUAL}
use Rattle.c_lexer.specs.declared.mark.TheConstants.{MARK_SLASH_EQUAL, MARK_PERCENT_EQUAL}
use Rattle.c_lexer.specs.declared.mark.TheConstants.{MARK_PLUS_EQUAL, MARK_MINUS_EQUAL}
use Rattle.c_lexer.specs.declared.mark.TheConstants.{MARK_LEFT_SHIFT_EQUAL, MARK_RIGHT_SHIFT_EQUAL}
use Rattle.c_lexer.specs.declared.mark.TheConstants.{MARK_AMPERSAND_EQUAL, MARK_CARET_EQUAL}
use Rattle.c_lexer.specs.declared.mark.TheConstants.{MARK_BAR_EQUAL, MARK_COMMA}
use Rattle.c_lexer.specs.Entries.{Entry, spelling, alternative, numbers_of}
use Rattle.c_lexer.specs.Bytes.{percent_sign, colon}
use Rattle.c_lexer.specs.Comments.{IsPair, BeginsComment}

-- The marks of C11 (p1) but `#`, `##` and their digraphs, and then the other digraphs (p3). A
-- mark's number is its position in this list, from 0, and a digraph has the number of the mark that
-- it stands for (`laws::law_names`). Ours: `#` and `##` begin no token, for the preprocessor has
-- done with them.
unfoldable pub marks : List Entry
marks =
    spelling "[" MARK_LEFT_BRACKET ∷ spelling "]" MARK_RIGHT_BRACKET ∷
    spelling "(" MARK_LEFT_PAREN ∷ spelling ")" MARK_RIGHT_PAREN ∷
    spelling "{" MARK_LEFT_BRACE ∷ spelling "}" MARK_RIGHT_BRACE ∷ spelling "." MARK_DOT ∷
    spelling "->" MARK_ARROW ∷ spelling "++" MARK_PLUS_PLUS ∷ spelling "--" MARK_MINUS_MINUS ∷
    spelling "&" MARK_AMPERSAND ∷ spelling "*" MARK_STAR ∷ spelling "+" MARK_PLUS ∷
    spelling "-" MARK_MINUS ∷ spelling "~" MARK_TILDE ∷ spelling "!" MARK_EXCLAMATION ∷
    spelling "/" MARK_SLASH ∷ spelling "%" MARK_PERCENT ∷ spelling "<<" MARK_LEFT_SHIFT ∷
    spelling ">>" MARK_RIGHT_SHIFT ∷ spelling "<" MARK_LESS ∷ spelling ">" MARK_GREATER ∷
    spelling "<=" MARK_LESS_EQUAL ∷ spelling ">=" MARK_GREATER_EQUAL ∷
    spelling "==" MARK_EQUAL_EQUAL ∷ spelling "!=" MARK_NOT_EQUAL ∷ spelling "^" MARK_CARET ∷
    spelling "|" MARK_BAR ∷ spelling "&&" MARK_AND_AND ∷ spelling "||" MARK_OR_OR ∷
    spelling "?" MARK_QUESTION ∷ spelling ":" MARK_COLON ∷ spelling ";" MARK_SEMICOLON ∷
    spelling "..." MARK_ELLIPSIS ∷ spelling "=" MARK_EQUAL ∷ spelling "*=" MARK_STAR_EQUAL ∷
    spelling "/=" MARK_SLASH_EQUAL ∷ spelling "%=" MARK_PERCENT_EQUAL ∷
    spelling "+=" MARK_PLUS_EQUAL ∷ spelling "-=" MARK_MINUS_EQUAL ∷
    spelling "<<=" MARK_LEFT_SHIFT_EQUAL ∷ spelling ">>=" MARK_RIGHT_SHIFT_EQUAL ∷
    spelling "&=" MARK_AMPERSAND_EQUAL ∷ spelling "^=" MARK_CARET_EQUAL ∷
    spelling "|=" MARK_BAR_EQUAL ∷ spelling "," MARK_COMMA ∷
    alternative "<:" MARK_LEFT_BRACKET ∷ alternative ":>" MARK_RIGHT_BRACKET ∷
    alternative "<%" MARK_LEFT_BRACE ∷ alternative "%>" MARK_RIGHT_BRACE ∷ []

-- The text spells the mark with the number.
abbrev pub IsMark : List ℕ → ℕ → Type 0
IsMark text number = Contains (numbers_of marks) (text, number)

-- `%:` stands there, the digraph of `#` (p3).
abbrev pub BeginsHash : List ℕ → ℕ → Type 0
BeginsHash bytes at = IsPair bytes at percent_sign colon

-- A mark stands between the offsets: one of the list, where neither a comment nor a `%:` begins.
pub record IsMarkAt (bytes : List ℕ) (from to number : ℕ) : Type 0 where
  pub mark : IsMark (slice_range bytes from to) number
  pub no_comment : ¬ BeginsComment bytes from
  pub no_hash : ¬ BeginsHash bytes from
