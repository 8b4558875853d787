use Rattle.std.proofs.Common.{length, ◌-◌, ◌+◌, ◌<◌, ◌≤◌}
use Rattle.c_lexer.specs.Literals.{AreCharacters}
use Rattle.c_lexer.proofs.literal.closing_quote.Given as goal

abbrev pub invariant-loop-at : goal.invariant-loop-at
invariant-loop-at l = record {
  low : l.opening < l.at;
  high : l.at ≤ length l.text.bytes.now + 1;
  characters : AreCharacters l.text.bytes.now l.quote (l.opening + 1) l.at;
}

abbrev pub decreases-loop-at : goal.decreases-loop-at
decreases-loop-at l = length l.text.bytes.now + 1 - l.at
