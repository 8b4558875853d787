use Rattle.edge_index.proofs.Ends.{lends_within}
use Rattle.edge_index.proofs.laws.law_within.Goals as goal

pub returns : goal.returns
returns c = lends_within
