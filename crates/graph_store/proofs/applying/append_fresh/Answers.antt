use Rattle.graph_store.specs.GrownRows.{HasSmallEnds}
use Rattle.graph_store.proofs.Fresh.{fresh_at}
use Rattle.graph_store.proofs.applying.append_fresh.Goals as goal

pub edge_of-requires : goal.edge_of-requires
edge_of-requires c =
    rw c.fresh.ensures
    (fresh_at (HasSmallEnds c.args.first) c.args.more.now c.loop-edge.edge-index _ c.loop-edge-test.true c.requires.small)
