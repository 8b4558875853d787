use Rattle.std.proofs.Common.{ℕ, ◌+◌, sym, subst, ◌∙◌}
use Rattle.std.specs.List.{range_with_len}
use Rattle.graph_store.specs.Stored.{plain}
use Rattle.unit_rules.specs.Units.{is_global}
use Rattle.unit_layers.proofs.Steps.{Counted, counted_more, counted_same, range_next}
use Rattle.unit_layers.proofs.global.count_global.Goals as goal
use Rattle.unit_layers.proofs.global.count_global.Goals.{then-is_global, else-is_global}

pub loop-node-preserved : goal.loop-node-preserved
loop-node-preserved c =
    let n = c.loop-node.node in
    elim c.if-is_global.branch [
      | then-is_global w ↦
          subst (λ (k : ℕ). Counted (is_global (plain c.args.graph.now)) (range_with_len 0 (c.loop-node.node + 1)) k (c.loop-node.node + 1)) (sym w.count-is)
          (counted_more (is_global (plain c.args.graph.now)) (range_with_len 0 n) (range_with_len 0 (n + 1)) n c.loop-node.count n (range_next n) (sym c.is_global.ensures ∙ w.if-is_global.true)
          c.loop-node.invariant)
      | else-is_global w ↦
          subst (λ (k : ℕ). Counted (is_global (plain c.args.graph.now)) (range_with_len 0 (c.loop-node.node + 1)) k (c.loop-node.node + 1)) (sym w.count-is)
          (counted_same (is_global (plain c.args.graph.now)) (range_with_len 0 n) (range_with_len 0 (n + 1)) n c.loop-node.count n (range_next n) (sym c.is_global.ensures ∙ w.if-is_global.false)
          c.loop-node.invariant)
    ]
