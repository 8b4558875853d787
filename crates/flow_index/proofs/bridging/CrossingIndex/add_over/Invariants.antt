use Rattle.flow_index.proofs.Walking.{positions_left}
use Rattle.flow_index.proofs.Adding.{Spanning}
use Rattle.flow_index.proofs.bridging.CrossingIndex.add_over.Given as goal

abbrev pub invariant-loop-next : goal.invariant-loop-next
invariant-loop-next l = Spanning l.flow l.self.by_out l.pair l.fn.ways.items l.ways.items l.next

abbrev pub decreases-loop-next : goal.decreases-loop-next
decreases-loop-next l = positions_left l.next
