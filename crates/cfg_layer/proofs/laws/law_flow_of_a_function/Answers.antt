use Rattle.cfg_layer.proofs.Planning.{is_plan_of}
use Rattle.cfg_layer.proofs.Adding.{are_flow_of}
use Rattle.cfg_layer.proofs.laws.law_flow_of_a_function.Goals as goal

pub returns : goal.returns
returns c = record { plan = is_plan_of; flow = are_flow_of }
