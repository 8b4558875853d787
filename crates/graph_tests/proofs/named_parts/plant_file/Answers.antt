use Rattle.graph_forest.proofs.Composing.{plants_branch}
use Rattle.graph_tests.proofs.named_parts.plant_file.Goals as goal

pub returns : goal.returns
returns c =
    plants_branch _ _ _ _ _ _ _ c.in_ok-enter.ensures (plants_branch _ _ _ _ _ _ _ c.in_ok-enter-2.ensures c.in_ok-plant_global.ensures c.leave.ensures) c.leave-2.ensures
