use Rattle.std.proofs.Common.{◌∷◌, map, take}
use Rattle.graph_store.specs.Stored.{plain}
use Rattle.unit_layers.specs.Ready.{IsRow}
use Rattle.unit_rules.specs.UnitNodes.{file_node, namespace_node, out_node}
use Rattle.unit_layers.proofs.unit_nodes.nodes_delta.Given as goal

abbrev pub invariant-loop-parameter : goal.invariant-loop-parameter
invariant-loop-parameter l = IsRow l.planter (file_node (plain l.graph) l.unit ∷ namespace_node ∷ map (out_node (plain l.graph)) (take l.parameter-index l.parameters))
