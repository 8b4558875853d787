use Rattle.graph_store.specs.Stored.{plain}
use Rattle.graph_parts.proofs.Walks.{Placing}
use Rattle.graph_parts.proofs.walk.Walk.place_children.Given as goal

abbrev pub invariant-loop-edge : goal.invariant-loop-edge
invariant-loop-edge l = Placing (plain l.graph) l.fn.self l.self l.node l.method l.root l.children l.edge-index
