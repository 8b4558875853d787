use Rattle.std.proofs.Common.{filter, true, false, sym, ap, ◌∙◌, append-nil}
use Rattle.std.specs.List.{range_with_len}
use Rattle.graph_store.specs.Stored.{plain}
use Rattle.unit_rules.specs.Units.{is_unit}
use Rattle.unit_layers.proofs.Steps.{filter_more, range_next}
use Rattle.unit_layers.proofs.global.units.Goals as goal
use Rattle.unit_layers.proofs.global.units.Goals.{then-is_unit+in_ok-push, else-is_unit}

pub loop-node-preserved : goal.loop-node-preserved
loop-node-preserved c =
    let n = c.loop-node.node in
    let next = ap (filter (is_unit (plain c.args.graph.now))) (range_next n) in
    elim c.if-is_unit.branch [
      | then-is_unit+in_ok-push w ↦
          let more = filter_more (is_unit (plain c.args.graph.now)) (range_with_len 0 n) n true (sym c.is_unit.ensures ∙ w.if-is_unit.true) in
          let pushed = w.in_ok-push.ensures.items in
          let is = w.found-is in
          let before = c.loop-node.invariant in
          cc
      | else-is_unit w ↦
          let more = filter_more (is_unit (plain c.args.graph.now)) (range_with_len 0 n) n false (sym c.is_unit.ensures ∙ w.if-is_unit.false) in
          let none = append-nil (filter (is_unit (plain c.args.graph.now)) (range_with_len 0 n)) in
          let is = w.found-is in
          let before = c.loop-node.invariant in
          cc
    ]
