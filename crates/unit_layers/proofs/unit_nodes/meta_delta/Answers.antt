use Rattle.std.proofs.Common.{◌∷◌, [], Some, codes, ap}
use Rattle.cpg_schema.specs.Graph.{PlainNode}
use Rattle.unit_rules.specs.UnitNodes.{meta_data}
use Rattle.unit_layers.proofs.Steps.{row_delta, row_start}
use Rattle.unit_layers.proofs.unit_nodes.meta_delta.Goals as goal

pub returns : goal.returns
returns c =
    row_delta c.plant.new.planter _ (meta_data ∷ []) c.finish.result c.finish.ensures (ap (λ (n : PlainNode). record n { name = Some (codes "C") } ∷ []) c.bare.ensures)
    (c.in_ok-plant.ensures [] (row_start c.new-planter.result c.new-planter.ensures))
