use Rattle.std.proofs.Common.{◌≡◌, List, slice_get, subst, ap, ◌∙◌, arith}
use Rattle.cpg_schema.specs.Graph.{PlainNode}
use Rattle.c_tree.specs.declared.tree.BlockItem.{BlockItem}
use Rattle.graph_forest.specs.declared.hang.Hang.TheVariants.{Plain}
use Rattle.graph_forest.specs.Nodes.{plain_node}
use Rattle.graph_forest.specs.Planting.{Plants, Enters}
use Rattle.graph_forest.proofs.Composing.{plants_branch}
use Rattle.ast_layer.specs.Source.{File, file_of}
use Rattle.ast_layer.specs.Nodes.{block_node}
use Rattle.ast_layer.specs.Forests.{children_forest, expressions}
use Rattle.ast_layer.proofs.source.Source.plant_block.Goals as goal

pub returns : goal.returns
returns c =
    let file : File = file_of c.args.self.now in
    let brace : c.copied-brace.result ≡ slice_get c.args.body.now.marks 0 = first_of (cc, grind arith) in
    let node : plain_node c.block.result ≡ block_node file (slice_get c.args.body.now.marks 0) = c.block.ensures ∙ ap (block_node file) brace in
    let enters = subst (λ (x : PlainNode). Enters c.args.planter.now c.enter.new.self Plain x) node c.in_ok-enter.ensures in
    let children =
    subst (λ (l : List BlockItem). Plants c.enter.new.self c.plant_statements.new.planter (children_forest file 1 (expressions l))) c.items-2.ensures
    c.in_ok-plant_statements.ensures in
    plants_branch _ _ _ _ _ _ _ enters children c.leave.ensures
