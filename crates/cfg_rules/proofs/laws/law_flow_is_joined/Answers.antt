use Rattle.cfg_rules.proofs.Walks.{flow_is_joined}
use Rattle.cfg_rules.proofs.laws.law_flow_is_joined.Goals as goal

pub returns : goal.returns
returns c = flow_is_joined
