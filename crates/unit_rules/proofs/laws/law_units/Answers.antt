use Rattle.unit_rules.proofs.Fits.{units_fit}
use Rattle.unit_rules.proofs.Shapes.{units_shape}
use Rattle.unit_rules.proofs.laws.law_units.Goals as goal

pub returns-clause-fit : goal.returns-clause-fit
returns-clause-fit c = λ start is_graph shaped. units_fit start shaped is_graph

pub returns-clause-shape : goal.returns-clause-shape
returns-clause-shape c = λ caps start graph is_graph shaped is. units_shape start is_graph shaped caps graph is
