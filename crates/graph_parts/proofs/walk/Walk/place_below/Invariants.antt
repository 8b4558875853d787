use Rattle.std.proofs.Common.{◌-◌, length}
use Rattle.graph_store.specs.Stored.{plain}
use Rattle.graph_parts.proofs.Walks.{Below}
use Rattle.graph_parts.proofs.walk.Walk.place_below.Given as goal

abbrev pub invariant-loop-next : goal.invariant-loop-next
invariant-loop-next l = Below (plain l.graph) l.self l.next

abbrev pub decreases-loop-next : goal.decreases-loop-next
decreases-loop-next l = length l.graph.nodes - l.next
