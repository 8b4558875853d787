use Rattle.cfg_edges.proofs.Rising.{one_flow}
use Rattle.cfg_edges.proofs.laws.law_one_flow.Goals as goal

pub returns : goal.returns
returns c = one_flow
