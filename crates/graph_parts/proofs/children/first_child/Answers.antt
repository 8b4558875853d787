use Rattle.cpg_schema.specs.declared.edge_kind.EdgeKind.TheVariants.{Ast}
use Rattle.graph_store.specs.Stored.{plain}
use Rattle.edge_index.proofs.Counting.{no_edge}
use Rattle.graph_parts.specs.Parts.{IsChildWith}
use Rattle.graph_parts.proofs.Found.{first_least, lent_is, lent_low, none_least}
use Rattle.graph_parts.proofs.children.first_child.Goals as goal

pub passes-requires : goal.passes-requires
passes-requires g c = record {
  inside = lent_low c.args.graph.now c.args.index.now c.requires.index c.args.node Ast c.out-children.result.now c.out-children.ensures c.law_stored.ensures.is_graph c.loop-edge.edge-index no_edge c.loop-edge-test.true;
}

pub returns-then-passes-clause-child : goal.returns-then-passes-clause-child
returns-then-passes-clause-child g c =
    first_least c.args.graph.now c.args.index.now c.requires.index c.args.node Ast c.out-children.result.now c.out-children.ensures
    (IsChildWith (plain c.args.graph.now) (g.T.NodeTest.Has c.args.test.now) c.args.node) (λ n w. w.is_child) c.loop-edge.edge-index no_edge c.loop-edge-test.true c.loop-edge.invariant
    (record {
      is_child = lent_is c.args.graph.now c.args.index.now c.requires.index c.args.node Ast c.out-children.result.now c.out-children.ensures c.loop-edge.edge-index no_edge c.loop-edge-test.true;
      is_node = c.passes.ensures.0 c.if-passes.true;
    })

pub returns-then-passes-clause-within : goal.returns-then-passes-clause-within
returns-then-passes-clause-within g c =
    lent_low c.args.graph.now c.args.index.now c.requires.index c.args.node Ast c.out-children.result.now c.out-children.ensures c.law_stored.ensures.is_graph c.loop-edge.edge-index no_edge c.loop-edge-test.true

pub returns-clause-child : goal.returns-clause-child
returns-clause-child g c =
    none_least c.args.graph.now c.args.index.now c.requires.index c.args.node Ast c.out-children.result.now c.out-children.ensures
    (IsChildWith (plain c.args.graph.now) (g.T.NodeTest.Has c.args.test.now) c.args.node) (λ n w. w.is_child) c.loop-edge.edge-index c.loop-edge.invariant c.loop-edge-test.false
