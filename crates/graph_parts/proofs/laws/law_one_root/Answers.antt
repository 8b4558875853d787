use Rattle.graph_parts.proofs.Tree.{one_root}
use Rattle.graph_parts.proofs.Depth.{some_root}
use Rattle.graph_parts.proofs.laws.law_one_root.Goals as goal

pub returns-clause-one : goal.returns-clause-one
returns-clause-one c = one_root

pub returns-clause-some : goal.returns-clause-some
returns-clause-some c = some_root

pub returns-clause-file : goal.returns-clause-file
returns-clause-file c = λ graph shaped node first second one two. one_root graph shaped node first second one.is_root two.is_root
