use Rattle.std.proofs.Common.{◌∙◌}
use Rattle.cpg_schema.specs.declared.label.Label.TheVariants.{MethodParameterIn}
use Rattle.graph_store.specs.Stored.{plain}
use Rattle.unit_layers.proofs.Within.{labelled_low, members_low, unit_inside}
use Rattle.unit_layers.proofs.ready.UnitsReady.unit_delta.Goals as goal

pub members-requires-clause-inside : goal.members-requires-clause-inside
members-requires-clause-inside c =
    unit_inside (plain c.args.graph.now) c.args.self.now.units.items c.args.k c.index-unit.result.now c.requires.ready.units c.requires.inside c.index-unit.ensures

pub parameters_of-requires : goal.parameters_of-requires
parameters_of-requires c = record {
  inside = members_low (plain c.args.graph.now) c.index-unit.result.now c.deref.result.now (c.deref.ensures.value ∙ c.in_ok-members.ensures);
}

pub nodes_delta-requires-clause-inside : goal.nodes_delta-requires-clause-inside
nodes_delta-requires-clause-inside c =
    unit_inside (plain c.args.graph.now) c.args.self.now.units.items c.args.k c.index-unit.result.now c.requires.ready.units c.requires.inside c.index-unit.ensures

pub nodes_delta-requires-clause-parameters : goal.nodes_delta-requires-clause-parameters
nodes_delta-requires-clause-parameters c =
    let low = members_low (plain c.args.graph.now) c.index-unit.result.now c.deref.result.now (c.deref.ensures.value ∙ c.in_ok-members.ensures) in
    labelled_low (plain c.args.graph.now) MethodParameterIn c.deref.result.now c.deref-2.result.now (c.deref-2.ensures.value ∙ c.in_ok-parameters.ensures) low

pub join_members-requires-clause-inside : goal.join_members-requires-clause-inside
join_members-requires-clause-inside c =
    members_low (plain c.args.graph.now) c.index-unit.result.now c.deref-3.result.now (c.deref-3.ensures.value ∙ c.in_ok-members.ensures)

pub join_parameters-requires-clause-inside : goal.join_parameters-requires-clause-inside
join_parameters-requires-clause-inside c =
    let low = members_low (plain c.args.graph.now) c.index-unit.result.now c.deref.result.now (c.deref.ensures.value ∙ c.in_ok-members.ensures) in
    labelled_low (plain c.args.graph.now) MethodParameterIn c.deref.result.now c.deref-4.result.now (c.deref-4.ensures.value ∙ c.in_ok-parameters.ensures) low
