use Rattle.graph_store.specs.Stored.{plain}
use Rattle.unit_layers.proofs.Chaining.{Chained}
use Rattle.unit_layers.proofs.trees.Trees.of.Given as goal

abbrev pub invariant-loop-node : goal.invariant-loop-node
invariant-loop-node l = Chained (plain l.graph) l.first.items l.next.items l.node

abbrev pub decreases-loop-node : goal.decreases-loop-node
decreases-loop-node l = l.node
