-- What the marks of an external declaration tell of it before it is read (C11 6.9).

use Rattle.std.specs.Prelude.{ℕ, ◌+◌, ◌-◌, Bool, true, false, ◌||◌, ◌&&◌, ◌==◌, if◌then◌else◌}
use Rattle.std.specs.Prelude.{List, [], ◌∷◌, drop}
use Rattle.c_lexer.specs.declared.token.Token.{Token}
use Rattle.c_lexer.specs.declared.token.Kind.{Kind}
use Rattle.c_lexer.specs.declared.token.Kind.TheVariants.{Word, Key, Number, Char, Text, Mark}
use Rattle.c_lexer.specs.declared.token.Kind.TheVariants.{Line, Pragma}
use Rattle.c_lexer.specs.declared.mark.TheConstants.{MARK_LEFT_PAREN, MARK_RIGHT_PAREN}
use Rattle.c_lexer.specs.declared.mark.TheConstants.{MARK_LEFT_BRACKET, MARK_RIGHT_BRACKET}
use Rattle.c_lexer.specs.declared.mark.TheConstants.{MARK_LEFT_BRACE, MARK_RIGHT_BRACE}
use Rattle.c_lexer.specs.declared.mark.TheConstants.{MARK_COMMA, MARK_EQUAL, MARK_SEMICOLON}
use Rattle.line_marks.specs.Kept.{items_at}
use Rattle.c_unit.specs.declared.beginning.Seen.{Seen}
use Rattle.c_unit.specs.declared.beginning.Seen.TheVariants.{Open, Told}

-- How many brackets are open.
abbrev pub depth_of : Seen → ℕ
depth_of (Told answer) = 0
depth_of (Open depth closed) = depth

-- What a mark tells in so many brackets.
abbrev pub inside : ℕ → ℕ → Seen
inside depth number =
    if (number == MARK_LEFT_PAREN) || ((number == MARK_LEFT_BRACKET) || (number == MARK_LEFT_BRACE))
    then Open (depth + 1) false
    else (if (number == MARK_RIGHT_PAREN) || (number == MARK_RIGHT_BRACKET)
    then Open (depth - 1) true
    else (if number == MARK_RIGHT_BRACE then Open (depth - 1) false else Open depth false))

-- What it tells outside of all brackets, behind `)` or `]` or not.
abbrev pub outside : Bool → ℕ → Seen
outside closed number =
    if (number == MARK_LEFT_BRACE) && closed then Told true
    else (if (number == MARK_SEMICOLON) || ((number == MARK_EQUAL) || (number == MARK_COMMA))
    then Told false else inside 0 number)

abbrev pub behind_kind : ℕ → Bool → Kind → Seen
behind_kind depth closed (Mark number) =
    if depth == 0 then outside closed number else inside depth number
behind_kind depth closed Word = Open depth false
behind_kind depth closed (Key number) = Open depth false
behind_kind depth closed Number = Open depth false
behind_kind depth closed Char = Open depth false
behind_kind depth closed Text = Open depth false
behind_kind depth closed Line = Open depth false
behind_kind depth closed Pragma = Open depth false

-- Whether a `{` comes directly behind `)` or `]`, outside of brackets and before `;`, `=` and `,`:
-- then a function definition stands there, if anything does.
abbrev pub tells : Seen → List Token → Bool
tells (Told answer) tokens = answer
tells (Open depth closed) [] = false
tells (Open depth closed) (token ∷ tokens) =
    tells (behind_kind depth closed token.kind) tokens

-- The same from the kept token of this number on.
abbrev pub is_definition_at : List Token → List ℕ → ℕ → Bool
is_definition_at tokens kept at = tells (Open 0 false) (drop at (items_at tokens kept))
