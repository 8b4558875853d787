use Rattle.std.proofs.Common.{ℕ, ◌≡◌, ◌+◌, ◌≤◌, length, slice_index}
use Rattle.line_marks.specs.Stripping.{IsBalancedTo}
use Rattle.line_marks.proofs.balance.balanced_ends.Given as goal

abbrev pub invariant-loop-at : goal.invariant-loop-at
invariant-loop-at l = record {
  within : l.at ≤ length l.tokens;
  one_each : length l.ends.items ≡ length l.tokens + 1;
  each : (k : ℕ) → l.at ≤ k → k ≤ length l.tokens → IsBalancedTo l.tokens k (slice_index l.ends.items k);
}

abbrev pub decreases-loop-at : goal.decreases-loop-at
decreases-loop-at l = l.at
