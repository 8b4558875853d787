use Rattle.std.proofs.Common.{◌≤◌}
use Rattle.c_lexer.specs.Lines.{AreLineBlanks}
use Rattle.c_lexer.proofs.line.begins_line.Given as goal

abbrev pub invariant-loop-start : goal.invariant-loop-start
invariant-loop-start l = record {
  before : l.start ≤ l.at;
  blanks : AreLineBlanks l.bytes l.start l.at;
}

abbrev pub decreases-loop-start : goal.decreases-loop-start
decreases-loop-start l = l.start
