use Rattle.graph_store.specs.Stored.{plain}
use Rattle.graph_parts.proofs.Walks.{Rooting}
use Rattle.graph_parts.proofs.walk.Walk.place_roots.Given as goal

abbrev pub invariant-loop-node : goal.invariant-loop-node
invariant-loop-node l = Rooting (plain l.graph) l.self l.node
