use Rattle.std.proofs.Common.{length, ◌-◌, ◌≤◌, ◌<◌, ℕ}
use Rattle.c_lexer.specs.Numbers.{IsNumberByte}
use Rattle.c_lexer.proofs.number.number_end.Given as goal

abbrev pub invariant-loop-end : goal.invariant-loop-end
invariant-loop-end l = record {
  some : l.from < l.end;
  high : l.end ≤ length l.text.bytes.now;
  each : (i : ℕ) → l.from ≤ i → i < l.end → IsNumberByte l.text.bytes.now l.from i;
}

abbrev pub decreases-loop-end : goal.decreases-loop-end
decreases-loop-end l = length l.text.bytes.now - l.end
