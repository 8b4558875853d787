use Rattle.cfg_edges.proofs.Leading.{flow_led}
use Rattle.cfg_edges.proofs.laws.law_renumbered_flow.Goals as goal

pub returns : goal.returns
returns c = flow_led
