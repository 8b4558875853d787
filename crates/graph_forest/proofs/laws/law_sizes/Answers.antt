use Rattle.graph_forest.proofs.Sizes.{length-nodes_of-beside, length-edges_of}
use Rattle.graph_forest.proofs.laws.law_sizes.Goals as goal

pub returns-clause-beside : goal.returns-clause-beside
returns-clause-beside c = length-nodes_of-beside

pub returns-clause-edges : goal.returns-clause-edges
returns-clause-edges c = length-edges_of
