use Rattle.graph_parts.proofs.Tree.{one_nearest}
use Rattle.graph_parts.proofs.laws.law_one_above.Goals as goal

pub returns : goal.returns
returns c = one_nearest
