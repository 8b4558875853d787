use Rattle.summary_core.proofs.Marking.{Settling}
use Rattle.summary_core.proofs.marks.settle.Given as goal

abbrev pub invariant-loop-node : goal.invariant-loop-node
invariant-loop-node l = Settling l.count l.fn.nodes.items l.nodes.items l.node

abbrev pub decreases-loop-node : goal.decreases-loop-node
decreases-loop-node l = l.node
