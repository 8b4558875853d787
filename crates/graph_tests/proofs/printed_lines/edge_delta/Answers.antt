use Rattle.std.proofs.Common.{rules, ◌<◌, [], IsTrue, length, inl, inr, refl, arith}
use Rattle.cpg_schema.specs.Schema.{allows}
use Rattle.graph_store.specs.Stored.{plain}
use Rattle.edge_index.proofs.OneEdge.{one_edge_fits}
use Rattle.graph_tests.proofs.printed_lines.edge_delta.Goals as goal
use Rattle.graph_tests.proofs.printed_lines.edge_delta.Goals.{in-ReachingDef+in_ok-edge-in-ReachingDef, in_default+in_ok-edge-in_default}

pub returns : goal.returns
returns c =
    let graph = plain c.args.graph.now in
    let from : c.args.from < length graph.nodes = omega (arith, c.len.ensures, c.if-from-len.false) in
    let to : c.args.to < length graph.nodes = omega (arith, c.len-2.ensures, c.if-to-len.false) in
    let allowed : IsTrue (allows c.args.kind c.node.result c.node-2.result) = search rules in
    elim c.match-kind.branch [
      | in-ReachingDef+in_ok-edge-in-ReachingDef w ↦
          rw (w.delta-is, w.in_ok-edge-in-ReachingDef.ensures.ok, c.new-delta.ensures)
          (one_edge_fits graph c.args.from c.args.to c.args.kind c.args.variable.now c.node.result c.node-2.result from to c.node.ensures c.node-2.ensures allowed (inl (cc)))
      | in_default+in_ok-edge-in_default w ↦
          rw (w.delta-is, w.in_ok-edge-in_default.ensures.ok, c.new-delta.ensures)
          (one_edge_fits graph c.args.from c.args.to c.args.kind [] c.node.result c.node-2.result from to c.node.ensures c.node-2.ensures allowed (inr refl))
    ]
