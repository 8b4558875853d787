use Rattle.graph_store.specs.GrownRows.{edge_within}
use Rattle.graph_store.proofs.Renumbering.{one_more}
use Rattle.graph_store.proofs.absorbing.name_variables.Goals as goal

pub loop-edge-preserved : goal.loop-edge-preserved
loop-edge-preserved c =
    one_more (edge_within c.args.count) _ c.loop-edge.edge-index c.args.edges.now c.loop-edge.edges c.within.result
    c.loop-edge-test.true c.loop-edge.invariant c.within.ensures
