use Rattle.std.proofs.Common.{ℕ, ◌+◌, take, sym, subst, ◌∙◌}
use Rattle.graph_store.specs.Stored.{plain}
use Rattle.unit_rules.specs.Units.{is_inner}
use Rattle.unit_layers.proofs.Inner.{edge_low, edges_next, shown_edge}
use Rattle.unit_layers.proofs.Steps.{Counted, counted_more, counted_same}
use Rattle.unit_layers.proofs.global.count_inner.Goals as goal
use Rattle.unit_layers.proofs.global.count_inner.Goals.{then-is_inner, else-is_inner}

pub is_inner-requires : goal.is_inner-requires
is_inner-requires c = edge_low c.args.graph.now c.law_stored.ensures.is_graph c.edges-edges.result.now c.edges-edges.ensures c.loop-edge.edge-index c.loop-edge-test.true

pub loop-edge-preserved : goal.loop-edge-preserved
loop-edge-preserved c =
    let k = c.loop-edge.edge-index in
    let edge = shown_edge c.args.graph.now c.edges-edges.result.now k in
    let more = edges_next c.args.graph.now c.edges-edges.result.now c.edges-edges.ensures k c.loop-edge-test.true in
    elim c.if-is_inner.branch [
      | then-is_inner w ↦
          subst (λ (n : ℕ). Counted (is_inner (plain c.args.graph.now)) (take (c.loop-edge.edge-index + 1) (plain c.args.graph.now).edges) n (c.loop-edge.edge-index + 1)) (sym w.count-is)
          (counted_more (is_inner (plain c.args.graph.now)) (take k (plain c.args.graph.now).edges) (take (k + 1) (plain c.args.graph.now).edges) edge c.loop-edge.count k more
          (sym c.is_inner.ensures ∙ w.if-is_inner.true) c.loop-edge.invariant)
      | else-is_inner w ↦
          subst (λ (n : ℕ). Counted (is_inner (plain c.args.graph.now)) (take (c.loop-edge.edge-index + 1) (plain c.args.graph.now).edges) n (c.loop-edge.edge-index + 1)) (sym w.count-is)
          (counted_same (is_inner (plain c.args.graph.now)) (take k (plain c.args.graph.now).edges) (take (k + 1) (plain c.args.graph.now).edges) edge c.loop-edge.count k more
          (sym c.is_inner.ensures ∙ w.if-is_inner.false) c.loop-edge.invariant)
    ]
