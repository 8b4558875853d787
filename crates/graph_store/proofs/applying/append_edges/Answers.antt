use Rattle.graph_store.specs.GrownRows.{HasSmallEnds}
use Rattle.graph_store.proofs.Fresh.{others_of}
use Rattle.graph_store.proofs.applying.append_edges.Goals as goal

pub append_others-requires-clause-small : goal.append_others-requires-clause-small
append_others-requires-clause-small c =
    others_of (HasSmallEnds c.args.first) c.args.fresh.now c.args.others.now c.requires.small
