use Rattle.flow_index.proofs.Searching.{Starting, Reaching}
use Rattle.flow_index.proofs.reaching.reached.Given as goal

abbrev pub invariant-loop-start : goal.invariant-loop-start
invariant-loop-start l = Starting l.count l.ways l.starts l.set l.start-index

abbrev pub invariant-loop-next : goal.invariant-loop-next
invariant-loop-next l = Reaching l.count l.ways l.starts l.set l.next
