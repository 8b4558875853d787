use Rattle.std.proofs.Common.{List, subst}
use Rattle.cpg_schema.specs.Graph.{PlainNode}
use Rattle.c_tree.specs.declared.tree.Item.{Item}
use Rattle.graph_forest.specs.declared.hang.Hang.TheVariants.{Plain}
use Rattle.graph_forest.specs.Forest.{leaf}
use Rattle.graph_forest.specs.Planting.{Plants, Enters}
use Rattle.graph_forest.proofs.Composing.{plants_beside, plants_branch}
use Rattle.ast_layer.specs.Source.{File, file_of}
use Rattle.ast_layer.specs.Forests.{global_forest}
use Rattle.ast_layer.proofs.source.Source.plant.Goals as goal

pub returns : goal.returns
returns c =
    let file : File = file_of c.args.self.now in
    let enters = subst (λ (x : PlainNode). Enters c.args.planter.now c.enter.new.self Plain x) c.global_method.ensures c.in_ok-enter.ensures in
    let block = subst (λ (l : List Item). Plants c.enter.new.self c.plant_global.new.planter (global_forest file l)) c.items.ensures c.in_ok-plant_global.ensures in
    let end = subst (λ (x : PlainNode). Plants c.plant_global.new.planter c.leaf.new.self (leaf Plain x)) c.global_return.ensures c.in_ok-leaf.ensures in
    plants_branch _ _ _ _ _ _ _ enters (plants_beside _ _ _ _ _ block end) c.leave.ensures
