use Rattle.std.proofs.Common.{length, ◌-◌, ◌≤◌}
use Rattle.c_lexer.specs.Lines.{AreLineBlanks}
use Rattle.c_lexer.proofs.line.blanks_end.Given as goal

abbrev pub invariant-loop-end : goal.invariant-loop-end
invariant-loop-end l = record {
  low : l.from ≤ l.end;
  high : l.end ≤ length l.bytes;
  blanks : AreLineBlanks l.bytes l.from l.end;
}

abbrev pub decreases-loop-end : goal.decreases-loop-end
decreases-loop-end l = length l.bytes - l.end
