use Rattle.std.proofs.Common.{length, ◌-◌, ◌≤◌}
use Rattle.c_lexer.specs.Lines.{OnOneLine}
use Rattle.c_lexer.proofs.line.line_end.Given as goal

abbrev pub invariant-loop-end : goal.invariant-loop-end
invariant-loop-end l = record {
  low : l.from ≤ l.end;
  high : l.end ≤ length l.bytes;
  one_line : OnOneLine l.bytes l.from l.end;
}

abbrev pub decreases-loop-end : goal.decreases-loop-end
decreases-loop-end l = length l.bytes - l.end
