-- Why a source is refused, and at which byte of its text (ours).
use Rattle.std.specs.Prelude.{ℕ, ◌≡◌, List, Some, slice_get}
use Rattle.c_lexer.specs.declared.token.Token.{Token}
use Rattle.c_lexer.specs.Reading.{AreTokensOf, StopsAt, LeavesOpen}
use Rattle.line_marks.specs.Kept.{StopsStripping, items_at}
use Rattle.c_tree.specs.declared.tree.Unit.{Unit}
use Rattle.first_grammar.specs.FirstUnit.{IsFirstUnit}
use Rattle.joern_top.specs.declared.status.Reason.{Reason}
use Rattle.joern_top.specs.declared.status.Reason.TheVariants as reason
use Rattle.joern_top.specs.Source.{IsStrippedTo}

-- A source with these bytes is refused at the byte with this offset, for this reason.
pub data IsRefusedAt (bytes : List ℕ) : ℕ → Reason → Type 0 where
  -- Its reading stops there, and nothing is left open.
  byte : (at : ℕ) → StopsAt bytes at → ¬ LeavesOpen bytes at → IsRefusedAt bytes at reason.Byte
  -- Its reading stops there, at a comment or a literal without an end.
  unclosed : (at : ℕ) → StopsAt bytes at → LeavesOpen bytes at →
      IsRefusedAt bytes at reason.Unclosed
  -- It has tokens, and parentheses are missing after the one that begins there, an `__attribute__`.
  attribute : (tokens : List Token) (number : ℕ) (token : Token) → AreTokensOf bytes tokens →
      StopsStripping tokens number → slice_get tokens number ≡ Some token →
      IsRefusedAt bytes token.start reason.Attribute
  -- The tokens that are kept for the parser have no tree. No byte is blamed.
  unbuilt : (tokens : List Token) (kept : List ℕ) → IsStrippedTo bytes tokens kept →
      ((unit : Unit) → ¬ IsFirstUnit bytes (items_at tokens kept) unit) →
      IsRefusedAt bytes 0 reason.Unbuilt
