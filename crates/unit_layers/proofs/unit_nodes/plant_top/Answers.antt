use Rattle.std.proofs.Common.{List, Option, Some, ◌∷◌, [], ℕ, ap, ◌∙◌}
use Rattle.std.proofs.lemmas.Result.{on_ok_weaker}
use Rattle.std.specs.Option.{option_copied}
use Rattle.cpg_schema.specs.declared.label.Label.TheVariants.{File}
use Rattle.cpg_schema.specs.Graph.{PlainNode, bare_node}
use Rattle.graph_store.specs.Stored.{plain}
use Rattle.unit_rules.specs.Units.{global_name}
use Rattle.unit_rules.specs.UnitNodes.{file_node, namespace_node}
use Rattle.unit_layers.proofs.Steps.{row_as, two_same}
use Rattle.unit_layers.proofs.unit_nodes.plant_top.Goals as goal

pub returns : goal.returns
returns c =
    let first = c.in_ok-plant.ensures [] c.requires.first in
    let file =
    ap (λ (n : PlainNode). record n { name = option_copied c.text.result }) c.bare.ensures ∙ ap (λ (t : Option (List ℕ)). record (bare_node File) { name = t }) c.text.ensures in
    let block = ap (λ (n : PlainNode). record n { name = Some global_name; order = Some 1 }) c.bare-2.ensures in
    on_ok_weaker c.plant-2.result
    (λ grow. row_as c.plant-2.new.planter _ (file_node (plain c.args.graph.now) c.args.unit ∷ namespace_node ∷ []) (two_same _ _ _ _ file block) (grow _ first)) c.plant-2.ensures
