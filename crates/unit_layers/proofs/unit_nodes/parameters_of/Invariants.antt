use Rattle.std.proofs.Common.{◌≡◌, take}
use Rattle.cpg_schema.specs.declared.label.Label.TheVariants.{MethodParameterIn}
use Rattle.graph_store.specs.Stored.{plain}
use Rattle.unit_rules.specs.Units.{labelled}
use Rattle.unit_layers.proofs.unit_nodes.parameters_of.Given as goal

abbrev pub invariant-loop-node : goal.invariant-loop-node
invariant-loop-node l = l.parameters.items ≡ labelled (plain l.graph) MethodParameterIn (take l.node-index l.members)
