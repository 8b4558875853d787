use Rattle.std.proofs.Common.{◌-◌, length}
use Rattle.graph_store.specs.Stored.{plain}
use Rattle.unit_rules.specs.Units.{members}
use Rattle.unit_layers.proofs.Chaining.{Walked}
use Rattle.unit_layers.proofs.trees.Trees.members.Given as goal

abbrev pub invariant-loop-node : goal.invariant-loop-node
invariant-loop-node l = Walked (members (plain l.graph) l.root) l.self.next.items l.members.items l.node

abbrev pub decreases-loop-node : goal.decreases-loop-node
decreases-loop-node l = length (members (plain l.graph) l.root) - length l.members.items
