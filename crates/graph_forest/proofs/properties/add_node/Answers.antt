use Rattle.graph_forest.specs.Nodes.{plain_node}
use Rattle.graph_forest.proofs.Setting.{all_set}
use Rattle.graph_forest.proofs.properties.add_node.Goals as goal

pub returns-clause-ok : goal.returns-clause-ok
returns-clause-ok c =
    all_set c.args.delta.now c.node.new.self c.add_text.new.delta c.add_text-2.new.delta c.add_text-3.new.delta c.add_number.new.delta c.add_number-2.new.delta
    c.add_number-3.new.delta c.add_text-4.new.delta c.add_text-5.new.delta c.add_text-6.new.delta c.in_ok-position.position (plain_node c.args.node.now)
    c.in_ok-position.ensures.number c.in_ok-position.ensures.ok c.in_ok-add_text.ensures.ok c.in_ok-add_text-2.ensures.ok c.in_ok-add_text-3.ensures.ok
    c.in_ok-add_number.ensures.ok c.in_ok-add_number-2.ensures.ok c.in_ok-add_number-3.ensures.ok c.in_ok-add_text-4.ensures.ok c.in_ok-add_text-5.ensures.ok
    c.in_ok-add_text-6.ensures.ok
