use Rattle.std.proofs.Common.{◌≡◌, Option, Some, slice_get, sym, subst, ap, ◌∙◌}
use Rattle.std.proofs.lemmas.Option.{slice_get-get_or}
use Rattle.graph_forest.specs.Forest.{Forest, planted}
use Rattle.graph_forest.specs.Planting.{Planting, Plants}
use Rattle.graph_forest.proofs.Composing.{plants_whole}
use Rattle.ast_layer.specs.declared.source.Source.{Source}
use Rattle.ast_layer.specs.Parts.{source_forest}
use Rattle.ast_layer.proofs.pass.AstPassPass.delta.Goals as goal

pub returns : goal.returns
returns c =
    let source : Source = c.index.result.now in
    let forest : Forest = source_forest (Some source) in
    let found : slice_get c.args.self.now.sources.items c.args.part ≡ Some source =
    slice_get-get_or c.args.self.now.sources.items c.args.part source c.requires.inside ∙ ap Some (sym c.index.ensures) in
    let plants = subst (λ (p : Planting). Plants p c.plant.new.planter forest) c.new-planter.ensures c.in_ok-plant.ensures in
    c.finish.ensures ∙ (plants_whole c.plant.new.planter forest plants ∙ sym (ap (λ (s : Option Source). planted (source_forest s)) found))
