use Rattle.std.proofs.Common.{subst, arith}
use Rattle.std.proofs.lemmas.List.{length-map}
use Rattle.graph_store.specs.Stored.{IsStored}
use Rattle.graph_store.specs.Rows.{plain_node}
use Rattle.graph_store.proofs.laws.law_stored.Goals as goal

pub returns : goal.returns
returns c =
    let g = c.graph.inside in
    let kept = c.graph.invariant in
    let size = length-map g.nodes.items (plain_node g.names) in
    let few = kept.few_nodes in
    subst IsStored c.graph.view_is (record {
      few_nodes = omega arith;
      few_edges = kept.few_edges;
      small_nodes = kept.small_nodes;
      small_edges = omega arith;
      is_graph = kept.is_graph;
      variables = kept.variables;
      empty = kept.empty;
      distinct = c.law_distinct.ensures;
    })
