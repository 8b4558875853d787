use Rattle.graph_parts.proofs.Tree.{one_parent}
use Rattle.graph_parts.proofs.laws.law_one_parent.Goals as goal

pub returns : goal.returns
returns c = λ graph shaped node first second. one_parent graph shaped first second node
