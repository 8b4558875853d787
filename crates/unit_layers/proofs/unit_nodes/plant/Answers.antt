use Rattle.graph_forest.specs.Nodes.{plain_node}
use Rattle.unit_layers.proofs.Steps.{row_more}
use Rattle.unit_layers.proofs.unit_nodes.plant.Goals as goal

pub returns : goal.returns
returns c = λ nodes row. row_more c.args.planter.now c.leaf.new.self (plain_node c.args.node.now) nodes c.in_ok-leaf.ensures row
