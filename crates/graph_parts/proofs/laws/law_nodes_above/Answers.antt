use Rattle.graph_parts.proofs.AboveList.{root_at_is, method_at_is}
use Rattle.graph_parts.proofs.laws.law_nodes_above.Goals as goal

pub returns-clause-root : goal.returns-clause-root
returns-clause-root c = root_at_is

pub returns-clause-method : goal.returns-clause-method
returns-clause-method c = method_at_is
