use Rattle.std.proofs.Common.{length, arith}
use Rattle.std.proofs.lemmas.List.FromFn.{length-range_with_len}
use Rattle.graph_store.specs.Stored.{plain}
use Rattle.unit_rules.specs.Units.{all_nodes, is_unit}
use Rattle.unit_layers.proofs.Counts.{few_pass, units_counted}
use Rattle.unit_layers.proofs.global.count_units.Goals as goal

pub overflow_sub-result : goal.overflow_sub-result
overflow_sub-result c =
    let sum = units_counted (plain c.args.graph.now) c.requires c.law_stored.ensures.is_graph in
    omega arith

pub returns-clause-count : goal.returns-clause-count
returns-clause-count c =
    let sum = units_counted (plain c.args.graph.now) c.requires c.law_stored.ensures.is_graph in
    omega arith

pub returns-clause-few : goal.returns-clause-few
returns-clause-few c =
    let sum = units_counted (plain c.args.graph.now) c.requires c.law_stored.ensures.is_graph in
    let few = few_pass (is_unit (plain c.args.graph.now)) (all_nodes (plain c.args.graph.now)) in
    let size = length-range_with_len 0 (length c.args.graph.now.nodes) in
    omega arith
