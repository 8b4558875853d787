use Rattle.std.proofs.Common.{◌≡◌, ℕ, Option, subst, ap, ◌∙◌}
use Rattle.cpg_schema.specs.Graph.{PlainNode}
use Rattle.graph_forest.specs.declared.hang.Hang.TheVariants.{Plain}
use Rattle.graph_forest.specs.Forest.{leaf}
use Rattle.graph_forest.specs.Nodes.{plain_node}
use Rattle.graph_forest.specs.Planting.{Plants, Enters}
use Rattle.graph_forest.proofs.Composing.{plants_beside, plants_branch}
use Rattle.ast_layer.specs.Source.{File, file_of}
use Rattle.ast_layer.specs.Nodes.{method_node, return_node}
use Rattle.ast_layer.specs.Forests.{name_token, type_token}
use Rattle.ast_layer.proofs.source.Source.plant_define.Goals as goal

pub returns : goal.returns
returns c =
    let file : File = file_of c.args.self.now in
    let name : Option ℕ = name_token c.args.declarator.now in
    let method : plain_node c.method.result ≡ method_node file name c.args.order =
    c.method.ensures ∙ ap (λ (token : Option ℕ). method_node file token c.args.order) c.name_of-name.ensures in
    let last : plain_node c.method_return.result ≡ return_node file name (type_token c.args.specs.now) =
    c.method_return.ensures ∙ (ap (λ (token : Option ℕ). return_node file token c.type_of.result) c.name_of-name.ensures ∙ ap (return_node file name) c.type_of.ensures) in
    let enters = subst (λ (x : PlainNode). Enters c.args.planter.now c.enter.new.self Plain x) method c.in_ok-enter.ensures in
    let end = subst (λ (x : PlainNode). Plants c.plant_block.new.planter c.leaf.new.self (leaf Plain x)) last c.in_ok-leaf.ensures in
    plants_branch _ _ _ _ _ _ _ enters (plants_beside _ _ _ _ _ c.in_ok-plant_block.ensures end) c.leave.ensures
