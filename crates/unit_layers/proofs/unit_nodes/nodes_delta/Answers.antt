use Rattle.std.proofs.Common.{◌∷◌, List, sym, ap}
use Rattle.cpg_schema.specs.Graph.{PlainNode}
use Rattle.graph_store.specs.Stored.{plain}
use Rattle.unit_rules.specs.UnitNodes.{file_node, namespace_node, out_node}
use Rattle.unit_layers.proofs.Steps.{map_more, row_as}
use Rattle.unit_layers.proofs.unit_nodes.nodes_delta.Goals as goal

pub loop-parameter-preserved : goal.loop-parameter-preserved
loop-parameter-preserved c =
    let graph = plain c.args.graph.now in
    let more = map_more (out_node graph) c.args.parameters.now c.loop-parameter.parameter-index c.loop-parameter-test.true in
    row_as c.plant_out.new.planter _ _ (ap (λ (nodes : List PlainNode). file_node graph c.args.unit ∷ namespace_node ∷ nodes) (sym more))
    (c.in_ok-plant_out.ensures _ c.loop-parameter.invariant)
