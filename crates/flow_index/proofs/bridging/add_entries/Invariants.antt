use Rattle.flow_index.proofs.Walking.{positions_left}
use Rattle.flow_index.proofs.Adding.{Entering}
use Rattle.flow_index.proofs.bridging.add_entries.Given as goal

abbrev pub invariant-loop-next : goal.invariant-loop-next
invariant-loop-next l = Entering l.flow l.by_entry l.close.to l.close.call l.goal l.fn.ways.items l.ways.items l.next

abbrev pub decreases-loop-next : goal.decreases-loop-next
decreases-loop-next l = positions_left l.next
