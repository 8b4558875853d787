use Rattle.std.proofs.Common.{◌≡◌, ◌≤◌, length, take}
use Rattle.c_lexer.specs.Directives.{max_line}
use Rattle.line_marks.specs.Naming.{names_of}
use Rattle.line_marks.proofs.Walk.{Walked}
use Rattle.line_marks.proofs.place.places_of.Given as goal

abbrev pub invariant-loop-token : goal.invariant-loop-token
invariant-loop-token l = record {
  walked : Walked l.text.bytes.now l.name (take l.token-index l.tokens) l.places.items (names_of l.files) l.presumption.file l.presumption.from l.presumption.line;
  one_each : length l.places.items ≡ l.token-index;
  small : l.presumption.line ≤ max_line;
}
