use Rattle.unit_rules.specs.Units.{all_nodes}
use Rattle.type_rules.specs.Types.{types_at}
use Rattle.type_rules.proofs.Facts.{type_stands}
use Rattle.type_rules.proofs.Fits.{types_fit, types_shape}
use Rattle.type_rules.proofs.Once.{one_position}
use Rattle.type_rules.proofs.laws.law_types.Goals as goal

pub returns-clause-fit : goal.returns-clause-fit
returns-clause-fit c = types_fit

pub returns-clause-shape : goal.returns-clause-shape
returns-clause-shape c = λ caps start graph shaped is. types_shape start caps graph shaped is

pub returns-clause-once : goal.returns-clause-once
returns-clause-once c = λ graph. one_position (types_at graph (all_nodes graph))

pub returns-clause-own : goal.returns-clause-own
returns-clause-own c = type_stands
