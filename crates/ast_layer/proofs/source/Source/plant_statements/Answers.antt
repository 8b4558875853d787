use Rattle.std.proofs.Common.{◌≡◌, ℕ, ◌+◌, ◌<◌, Some, None, length, drop, subst, ap, ◌∙◌}
use Rattle.graph_forest.specs.Planting.{Plants}
use Rattle.graph_forest.specs.declared.rank.Rank.{Rank}
use Rattle.ast_layer.specs.Source.{File, file_of}
use Rattle.ast_layer.specs.Grouping.{Grouped, grouped_assign}
use Rattle.graph_forest.specs.Ranks.{child}
use Rattle.ast_layer.specs.Forests.{grouped_forest, children_forest, expressions, statement}
use Rattle.ast_layer.proofs.Children.{statement_is, statements_step, statements_skip, statements_end}
use Rattle.ast_layer.proofs.source.Source.plant_statements.Goals as goal
use Rattle.ast_layer.proofs.source.Source.plant_statements.Goals.{in-Some+in_ok-order+in_ok-plant_assign, in_default}

pub loop-item-init : goal.loop-item-init
loop-item-init c = λ after planted. planted

pub loop-item-preserved : goal.loop-item-preserved
loop-item-preserved c =
    let file : File = file_of c.args.self.now in
    let items = c.args.items.now in
    let i : ℕ = c.loop-item.item-index in
    let item = c.item-item.result in
    let below : i < length items = c.loop-item-test.true in
    elim c.match-first.branch [
      | in-Some+in_ok-order+in_ok-plant_assign w ↦
          let grouped : Grouped = grouped_assign w.in-Some.part.now in
          let said : statement item ≡ Some grouped = statement_is item c.parts_of.result.now (Some w.in-Some.part.now) c.parts_of.ensures w.in-Some.ensures.value in
          rw (w.planter-is, w.order-is) (λ after planted.
          let a = c.loop-item.planter in
          let b = w.plant_assign.new.planter in
          let order : ℕ = c.loop-item.order + 1 in
          let next : w.in_ok-order.order ≡ order = w.in_ok-order.ensures in
          let one = subst (λ (r : Rank). Plants a b (grouped_forest file r grouped)) (w.child.ensures ∙ ap child next) w.in_ok-plant_assign.ensures in
          let rest = subst (λ (n : ℕ). Plants b after (children_forest file (n + 1) (expressions (drop (i + 1) items)))) next planted in
          c.loop-item.invariant after (statements_step a b after file order items i item grouped below c.item-item.is said one rest))
      | in_default w ↦
          let said : statement item ≡ None = statement_is item c.parts_of.result.now None c.parts_of.ensures w.in_default.ensures.value in
          rw (w.planter-is, w.order-is) (λ after planted.
          c.loop-item.invariant after (statements_skip c.loop-item.planter after file (c.loop-item.order + 1) items i item below c.item-item.is said planted))
    ]

pub returns : goal.returns
returns c =
    c.loop-item.invariant c.loop-item.planter
    (statements_end c.loop-item.planter (file_of c.args.self.now) (c.loop-item.order + 1) c.args.items.now c.loop-item.item-index c.loop-item-test.false)
