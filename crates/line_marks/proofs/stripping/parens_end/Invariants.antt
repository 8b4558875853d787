use Rattle.std.proofs.Common.{ℕ, ◌-◌, ◌≤◌, length}
use Rattle.line_marks.specs.Kept.{AreParens}
use Rattle.line_marks.proofs.stripping.parens_end.Given as goal

-- Only absent tokens are passed.
abbrev pub invariant-loop-kind : goal.invariant-loop-kind
invariant-loop-kind l = record {
  low : l.from ≤ l.at;
  found : (to : ℕ) → AreParens l.tokens l.at to → AreParens l.tokens l.from to;
  none : (to : ℕ) → AreParens l.tokens l.from to → AreParens l.tokens l.at to;
}

abbrev pub decreases-loop-kind : goal.decreases-loop-kind
decreases-loop-kind l = length l.tokens - l.at
