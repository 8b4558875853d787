use Rattle.graph_forest.proofs.Fitting.{planted_fits, planted_parts_fit}
use Rattle.graph_forest.proofs.laws.law_fits.Goals as goal

pub returns-clause-delta : goal.returns-clause-delta
returns-clause-delta c = planted_fits

pub returns-clause-parts : goal.returns-clause-parts
returns-clause-parts c = planted_parts_fit
