use Rattle.std.proofs.Common.{length, ◌-◌, ◌≤◌, ◌<◌, ℕ, slice_index}
use Rattle.c_lexer.specs.Bytes.{IsWordByte}
use Rattle.c_lexer.proofs.word.word_end.Given as goal

abbrev pub invariant-loop-end : goal.invariant-loop-end
invariant-loop-end l = record {
  low : l.from ≤ l.end;
  high : l.end ≤ length l.bytes;
  each : (i : ℕ) → l.from ≤ i → i < l.end → IsWordByte (slice_index l.bytes i);
}

abbrev pub decreases-loop-end : goal.decreases-loop-end
decreases-loop-end l = length l.bytes - l.end
