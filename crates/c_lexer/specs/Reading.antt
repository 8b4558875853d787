-- How a text is read: each token is the longest that stands at its offset (C11 6.4p4).

use Rattle.std.specs.Prelude.{ℕ, ◌≡◌, ◌≢◌, ◌⊎◌, ◌+◌, ◌<◌, ◌≤◌, List, [], ◌∷◌, length, slice_index}
use Rattle.c_lexer.specs.declared.token.Kind.{Kind}
use Rattle.c_lexer.specs.declared.token.Token.{Token}
use Rattle.c_lexer.specs.Bytes.{slash, asterisk, single_quote, double_quote}
use Rattle.c_lexer.specs.Lines.{line_at, column_at}
use Rattle.c_lexer.specs.Comments.{IsPair}
use Rattle.c_lexer.specs.Spelling.{Spells}
use Rattle.c_lexer.specs.Passing.{PassesAll}

-- A token of the kind stands between the offsets, and no longer one begins there (6.4p4).
pub record IsLongest (bytes : List ℕ) (from to : ℕ) (kind : Kind) : Type 0 where
  pub some : from < to
  pub within : to ≤ length bytes
  pub spelled : Spells bytes from to kind
  pub longest : (other : Kind) (past : ℕ) → to < past → past ≤ length bytes →
      ¬ Spells bytes from past other

-- No token begins at the offset.
abbrev pub BeginsNoToken : List ℕ → ℕ → Type 0
BeginsNoToken bytes at =
    (kind : Kind) (to : ℕ) → at < to → to ≤ length bytes → ¬ Spells bytes at to kind

-- The token's bytes stand in the text.
pub record IsWithin (bytes : List ℕ) (token : Token) : Type 0 where
  pub forward : token.start ≤ token.end
  pub inside : token.end ≤ length bytes

-- The token is the longest at its offset, with the line and the column of that offset.
pub record IsTokenOf (bytes : List ℕ) (token : Token) : Type 0 where
  pub longest : IsLongest bytes token.start token.end token.kind
  pub line : token.line ≡ line_at bytes token.start
  pub column : token.column ≡ column_at bytes token.start

-- From `from` on the tokens follow each other, and the reading comes to `stop`, where no token
-- begins.
abbrev pub Reads : List ℕ → ℕ → List Token → ℕ → Type 0
Reads bytes from [] stop = PassesAll bytes from stop × BeginsNoToken bytes stop
Reads bytes from (token ∷ tokens) stop =
    PassesAll bytes from token.start × IsTokenOf bytes token × Reads bytes token.end tokens stop

-- The tokens spell the text: the reading comes to its end.
abbrev pub AreTokensOf : List ℕ → List Token → Type 0
AreTokensOf bytes tokens = Reads bytes 0 tokens (length bytes)

-- The reading stops at the offset, before the end of the text.
pub record StopsAt (bytes : List ℕ) (at : ℕ) : Type 0 where
  pub before_end : at < length bytes
  pub tokens : List Token
  pub reads : Reads bytes 0 tokens at

-- A block comment, a string literal or a character constant begins at the offset. Where the reading
-- stops there, it does not end. At `''` none begins: its character is missing.
abbrev pub LeavesOpen : List ℕ → ℕ → Type 0
LeavesOpen bytes at =
    IsPair bytes at slash asterisk
    ⊎ (slice_index bytes at ≡ double_quote)
    ⊎ ((slice_index bytes at ≡ single_quote) × (slice_index bytes (at + 1) ≢ single_quote))
