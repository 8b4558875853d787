use Rattle.std.proofs.Common.{◌≡◌, ℕ, ◌+◌, drop, subst}
use Rattle.graph_forest.specs.Planting.{Plants}
use Rattle.ast_layer.specs.Source.{File, file_of}
use Rattle.ast_layer.specs.Forests.{function_forest, functions_forest}
use Rattle.ast_layer.proofs.Children.{functions_step, functions_end}
use Rattle.ast_layer.proofs.source.Source.plant_functions.Goals as goal

pub loop-item-init : goal.loop-item-init
loop-item-init c = λ after planted. planted

pub loop-item-preserved : goal.loop-item-preserved
loop-item-preserved c = λ after planted.
    let file : File = file_of c.args.self.now in
    let a = c.loop-item.planter in
    let b = c.plant_function.new.planter in
    let order : ℕ = c.loop-item.order + 1 in
    let next : c.in_ok-order.order ≡ order = c.in_ok-order.ensures in
    let one = subst (λ (n : ℕ). Plants a b (function_forest file n c.item-item.result)) next c.in_ok-plant_function.ensures in
    let rest = subst (λ (n : ℕ). Plants b after (functions_forest file (n + 1) (drop (c.loop-item.item-index + 1) c.args.items.now))) next planted in
    c.loop-item.invariant after
    (functions_step a b after file order c.args.items.now c.loop-item.item-index c.item-item.result c.loop-item-test.true c.item-item.is one rest)

pub returns : goal.returns
returns c =
    c.loop-item.invariant c.loop-item.planter
    (functions_end c.loop-item.planter (file_of c.args.self.now) (c.loop-item.order + 1) c.args.items.now c.loop-item.item-index c.loop-item-test.false)
