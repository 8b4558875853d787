use Rattle.std.proofs.Common.{Some, subst}
use Rattle.cpg_schema.specs.declared.label.Label.TheVariants.{Identifier}
use Rattle.cpg_schema.specs.Graph.{PlainNode, bare_node}
use Rattle.graph_forest.specs.declared.hang.Hang.TheVariants.{Plain, Condition}
use Rattle.graph_forest.specs.declared.rank.Rank.{Rank}
use Rattle.graph_forest.specs.Ranks.{argument_index}
use Rattle.graph_forest.specs.Forest.{leaf}
use Rattle.graph_forest.specs.Planting.{Planting, Enters, Plants}
use Rattle.graph_forest.proofs.Composing.{plants_beside, plants_branch_beside}
use Rattle.graph_tests.proofs.planted_forests.plant_if.Goals as goal

-- An IDENTIFIER of this rank is planted.
abbrev PlantsIdentifier : Planting → Planting → Rank → Type 0
PlantsIdentifier a b rank = Plants a b (leaf rank.hang (record (bare_node Identifier) { order = Some rank.order; argument_index = argument_index rank }))

pub returns : goal.returns
returns c =
    let enters = subst (λ (n : PlainNode). Enters c.args.planter.now c.enter.new.self Plain n) c.bare.ensures c.in_ok-enter.ensures in
    let call = subst (λ (n : PlainNode). Enters c.enter.new.self c.enter-2.new.self Condition n) c.bare-2.ensures c.in_ok-enter-2.ensures in
    let callee = subst (PlantsIdentifier c.enter-2.new.self c.plant_identifier.new.planter) c.pointer_argument.ensures c.in_ok-plant_identifier.ensures in
    let argument =
    subst (PlantsIdentifier c.plant_identifier.new.planter c.plant_identifier-2.new.planter) c.pointer_argument-2.ensures c.in_ok-plant_identifier-2.ensures in
    let body = subst (λ (n : PlainNode). Plants c.leave.new.self c.leaf.new.self (leaf Plain n)) c.bare-3.ensures c.in_ok-leaf.ensures in
    let file = subst (λ (n : PlainNode). Plants c.leave-2.new.self c.leaf-2.new.self (leaf Plain n)) c.bare-4.ensures c.in_ok-leaf-2.ensures in
    plants_branch_beside _ _ _ _ _ _ _ _ _ enters
    (plants_branch_beside _ _ _ _ _ _ _ _ _ call (plants_beside _ _ _ _ _ callee argument) c.leave.ensures body) c.leave-2.ensures file
