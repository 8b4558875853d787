use Rattle.std.proofs.Common.{ℕ, ◌++◌, ◌-◌, List, None, length}
use Rattle.line_marks.specs.Kept.{Strips}
use Rattle.line_marks.proofs.stripping.strip.Given as goal

-- However the stripping goes on, it goes on so behind what is kept.
abbrev pub invariant-loop-kind : goal.invariant-loop-kind
invariant-loop-kind l =
    (rest : List ℕ) (stop : ℕ) → Strips l.tokens l.before l.at rest stop →
    Strips l.tokens None 0 (l.kept.items ++ rest) stop

abbrev pub decreases-loop-kind : goal.decreases-loop-kind
decreases-loop-kind l = length l.tokens - l.at
