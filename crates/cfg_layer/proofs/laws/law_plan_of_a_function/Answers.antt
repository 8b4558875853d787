use Rattle.cfg_layer.proofs.Trees.{plan_is}
use Rattle.cfg_layer.proofs.laws.law_plan_of_a_function.Goals as goal

pub returns : goal.returns
returns c = plan_is
