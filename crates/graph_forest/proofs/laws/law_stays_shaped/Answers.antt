use Rattle.graph_forest.proofs.Shaping.{planted_shaped, all_stay_shaped}
use Rattle.graph_forest.proofs.laws.law_stays_shaped.Goals as goal

pub returns-clause-delta : goal.returns-clause-delta
returns-clause-delta c = planted_shaped

pub returns-clause-parts : goal.returns-clause-parts
returns-clause-parts c = all_stay_shaped
