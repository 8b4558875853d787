use Rattle.graph_forest.specs.Nodes.{plain_node}
use Rattle.graph_forest.proofs.Hanging.{plants_hung, plants_root}
use Rattle.graph_forest.proofs.planter.Planter.plant.Goals as goal

pub returns-in_ok-hang_from-clause-ok : goal.returns-in_ok-hang_from-clause-ok
returns-in_ok-hang_from-clause-ok c =
    plants_hung c.args.self.now c.self.inside.delta c.add_node.new.delta c.hang_from.new.delta c.self.inside.opened.items c.deref.result.now
    c.in-Some.parent.now c.in_ok-position.position c.args.hang (plain_node c.args.node.now) c.self.view_is c.in-Some.ensures.value c.deref.ensures.value
    c.in_ok-position.ensures.ok c.in_ok-position.ensures.position c.in_ok-hang_from.ensures.ok

pub returns-in_default-clause-ok : goal.returns-in_default-clause-ok
returns-in_default-clause-ok c =
    plants_root c.args.self.now c.self.inside.delta c.add_node.new.delta c.self.inside.opened.items c.deref.result.now c.args.hang
    (plain_node c.args.node.now) c.self.view_is c.in_default.ensures.value c.deref.ensures.value c.in_ok-position.ensures.ok
