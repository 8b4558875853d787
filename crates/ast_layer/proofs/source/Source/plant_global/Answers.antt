use Rattle.std.proofs.Common.{subst}
use Rattle.cpg_schema.specs.Graph.{PlainNode}
use Rattle.graph_forest.specs.declared.hang.Hang.TheVariants.{Plain}
use Rattle.graph_forest.specs.Planting.{Enters}
use Rattle.graph_forest.proofs.Composing.{plants_branch}
use Rattle.ast_layer.proofs.source.Source.plant_global.Goals as goal

pub returns : goal.returns
returns c =
    let enters = subst (λ (x : PlainNode). Enters c.args.planter.now c.enter.new.self Plain x) c.global_block.ensures c.in_ok-enter.ensures in
    plants_branch _ _ _ _ _ _ _ enters c.in_ok-plant_functions.ensures c.leave.ensures
