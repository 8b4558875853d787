use Rattle.cfg_edges.proofs.Rising.{edges_are_flow}
use Rattle.cfg_edges.proofs.laws.law_edges_are_flow.Goals as goal

pub returns : goal.returns
returns c = edges_are_flow
