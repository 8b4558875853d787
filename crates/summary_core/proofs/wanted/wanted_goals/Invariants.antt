use Rattle.summary_core.proofs.Wanting.{TakesUp}
use Rattle.summary_core.proofs.wanted.wanted_goals.Given as goal

abbrev pub invariant-loop-vertex : goal.invariant-loop-vertex
invariant-loop-vertex l = TakesUp l.flow l.starts l.wanted.items l.vertex
