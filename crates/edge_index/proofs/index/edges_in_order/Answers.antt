use Rattle.edge_index.proofs.Ends.{from_within}
use Rattle.edge_index.proofs.index.edges_in_order.Goals as goal

pub of-requires-clause-inside : goal.of-requires-clause-inside
of-requires-clause-inside c =
    let g = c.args.graph.now in
    rw c.len.ensures (from_within g.names g.nodes g.edges c.law_stored.ensures.is_graph.edges)
