use Rattle.edge_index.proofs.LentEdges.{lent_out, lent_into}
use Rattle.edge_index.proofs.laws.law_node_edges.Goals as goal

pub returns-clause-out : goal.returns-clause-out
returns-clause-out c = lent_out

pub returns-clause-into : goal.returns-clause-into
returns-clause-into c = lent_into
