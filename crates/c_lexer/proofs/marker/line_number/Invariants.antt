use Rattle.std.proofs.Common.{ℕ, ◌≡◌, ◌<◌, ◌≤◌, ◌-◌, length, slice_index, slice_range}
use Rattle.c_lexer.specs.Bytes.{IsDigit}
use Rattle.c_lexer.specs.Directives.{digits_value, max_line}
use Rattle.c_lexer.proofs.marker.line_number.Given as goal

abbrev pub invariant-loop-past : goal.invariant-loop-past
invariant-loop-past l = record {
  low : l.from ≤ l.past;
  high : l.past ≤ length l.bytes;
  digits : (i : ℕ) → l.from ≤ i → i < l.past → IsDigit (slice_index l.bytes i);
  value : digits_value 0 (slice_range l.bytes l.from l.past) ≡ l.line;
  small : l.line ≤ max_line;
}

abbrev pub decreases-loop-past : goal.decreases-loop-past
decreases-loop-past l = length l.bytes - l.past
