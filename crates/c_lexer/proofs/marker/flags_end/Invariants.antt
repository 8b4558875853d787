use Rattle.std.proofs.Common.{◌≤◌, ◌-◌, length}
use Rattle.c_lexer.specs.Directives.{AreFlags}
use Rattle.c_lexer.proofs.marker.flags_end.Given as goal

abbrev pub invariant-loop-digit : goal.invariant-loop-digit
invariant-loop-digit l = record {
  low : l.from ≤ l.end;
  high : l.end ≤ length l.bytes;
  flags : AreFlags l.bytes l.from l.end;
}

abbrev pub decreases-loop-digit : goal.decreases-loop-digit
decreases-loop-digit l = length l.bytes - l.end
