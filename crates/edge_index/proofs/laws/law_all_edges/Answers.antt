use Rattle.edge_index.proofs.NodeByNode.{all_edges_same, all_edges_printed}
use Rattle.edge_index.proofs.laws.law_all_edges.Goals as goal

pub returns-clause-leaving : goal.returns-clause-leaving
returns-clause-leaving c = all_edges_same

pub returns-clause-printed : goal.returns-clause-printed
returns-clause-printed c = all_edges_printed
