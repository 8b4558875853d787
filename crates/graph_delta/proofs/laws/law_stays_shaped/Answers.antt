use Rattle.graph_delta.proofs.Shaping.{stays_shaped}
use Rattle.graph_delta.proofs.laws.law_stays_shaped.Goals as goal

pub returns : goal.returns
returns c = stays_shaped
