use Rattle.std.proofs.Common.{◌≡◌, take}
use Rattle.std.specs.List.{flat_map}
use Rattle.graph_store.specs.Stored.{plain}
use Rattle.unit_layers.specs.Adding.{with_edges}
use Rattle.unit_rules.specs.UnitEdges.{member_edges}
use Rattle.unit_layers.proofs.unit_edges.join_members.Given as goal

abbrev pub invariant-loop-node : goal.invariant-loop-node
invariant-loop-node l = l.delta ≡ with_edges (flat_map (member_edges (plain l.graph)) (take l.node-index l.members)) l.fn.delta
