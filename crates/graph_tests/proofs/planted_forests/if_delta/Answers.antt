use Rattle.std.proofs.Common.{Some, None, refl, sym, subst}
use Rattle.cpg_schema.specs.declared.label.Label.TheVariants.{ControlStructure, Call, Identifier, Return, File}
use Rattle.cpg_schema.specs.Graph.{bare_node}
use Rattle.graph_forest.specs.declared.hang.Hang.TheVariants.{Plain, Argument, Condition}
use Rattle.graph_forest.specs.Forest.{Forest, beside, branch, leaf, IsAllowed, IsAllowedUnder, IsPlanted}
use Rattle.graph_forest.proofs.Allowing.{allowed-beside}
use Rattle.graph_forest.proofs.Composing.{plants_planted}
use Rattle.graph_tests.proofs.planted_forests.if_delta.Goals as goal

abbrev callee : Forest
callee = leaf (Argument 0) (record (bare_node Identifier) { order = Some 1; argument_index = Some 0 })

abbrev argument : Forest
argument = leaf (Argument 1) (record (bare_node Identifier) { order = Some 2; argument_index = Some 1 })

abbrev call : Forest
call = branch Condition (bare_node Call) (beside callee argument)

abbrev statement : Forest
statement = branch Plain (bare_node ControlStructure) (beside call (leaf Plain (bare_node Return)))

call_allowed : IsAllowedUnder (Some ControlStructure) call
call_allowed = (refl, allowed-beside (Some Call) callee argument (refl, tt, tt) (refl, tt, tt), tt)

allowed : IsAllowed (beside statement (leaf Plain (bare_node File)))
allowed =
    allowed-beside None statement (leaf Plain (bare_node File))
    (refl, allowed-beside (Some ControlStructure) call (leaf Plain (bare_node Return)) call_allowed (refl, tt, tt), tt) (refl, tt, tt)

pub returns : goal.returns
returns c =
    subst IsPlanted (sym c.finish.ensures)
    (plants_planted c.new-planter.result c.plant_if.new.planter (beside statement (leaf Plain (bare_node File))) c.new-planter.ensures c.in_ok-plant_if.ensures allowed)
