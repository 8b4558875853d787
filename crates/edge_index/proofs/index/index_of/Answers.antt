use Rattle.edge_index.proofs.Ends.{from_within, to_within}
use Rattle.edge_index.proofs.index.index_of.Goals as goal

pub of-requires-clause-inside : goal.of-requires-clause-inside
of-requires-clause-inside c =
    let g = c.args.graph.now in
    rw c.len-node_count.ensures (from_within g.names g.nodes g.edges c.law_stored.ensures.is_graph.edges)

pub of-requires-2-clause-inside : goal.of-requires-2-clause-inside
of-requires-2-clause-inside c =
    let g = c.args.graph.now in
    rw c.len-node_count.ensures (to_within g.names g.nodes g.edges c.law_stored.ensures.is_graph.edges)
