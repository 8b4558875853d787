use Rattle.graph_forest.proofs.Composing.{plants_beside, plants_branch}
use Rattle.graph_tests.proofs.named_parts.plant_call.Goals as goal

pub returns : goal.returns
returns c =
    plants_branch _ _ _ _ _ _ _ c.in_ok-enter.ensures (plants_beside _ _ _ _ _ c.in_ok-plant_argument.ensures c.in_ok-plant_argument-2.ensures) c.leave.ensures
