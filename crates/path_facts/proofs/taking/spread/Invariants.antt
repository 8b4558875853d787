use Rattle.flow_index.proofs.Walking.{positions_left}
use Rattle.path_facts.proofs.Following.{Spreading}
use Rattle.path_facts.proofs.taking.spread.Given as goal

abbrev pub invariant-loop-next : goal.invariant-loop-next
invariant-loop-next l = Spreading l.from l.to l.fn.facts l.facts l.next

abbrev pub decreases-loop-next : goal.decreases-loop-next
decreases-loop-next l = positions_left l.next
