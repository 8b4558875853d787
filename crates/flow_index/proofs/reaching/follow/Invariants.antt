use Rattle.flow_index.proofs.Following.{Follows, positions_left}
use Rattle.flow_index.proofs.reaching.follow.Given as goal

abbrev pub invariant-loop-next : goal.invariant-loop-next
invariant-loop-next l = Follows l.ways l.from l.fn.set l.set l.next

abbrev pub decreases-loop-next : goal.decreases-loop-next
decreases-loop-next l = positions_left l.next
