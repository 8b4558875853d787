use Rattle.std.proofs.Common.{List, ◌∷◌, [], ◌++◌, OnOk, subst}
use Rattle.std.specs.Option.{option_copied}
use Rattle.cpg_schema.specs.Graph.{PlainNode}
use Rattle.graph_store.specs.Stored.{plain}
use Rattle.graph_forest.specs.Nodes.{plain_node}
use Rattle.unit_layers.specs.Ready.{IsRow}
use Rattle.unit_layers.proofs.Steps.{out_is}
use Rattle.unit_layers.proofs.unit_nodes.plant_out.Goals as goal

pub returns : goal.returns
returns c =
    let same =
    out_is (plain c.args.graph.now) c.args.parameter (plain_node c.bare.result) (option_copied c.text.result) (option_copied c.text-2.result) c.number.result c.number-2.result c.bare.ensures
    c.text.ensures c.number.ensures c.number-2.ensures c.text-2.ensures in
    subst (λ (n : PlainNode). OnOk c.plant.result ((nodes : List PlainNode) → IsRow c.args.planter.now nodes → IsRow c.plant.new.planter (nodes ++ n ∷ []))) same c.plant.ensures
