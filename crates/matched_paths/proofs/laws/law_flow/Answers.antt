use Rattle.matched_paths.proofs.Folding.{flow_folded, flow_unfolded}
use Rattle.matched_paths.proofs.laws.law_flow.Goals as goal

pub returns : goal.returns
returns c flow a b = (flow_folded flow, flow_unfolded flow)
