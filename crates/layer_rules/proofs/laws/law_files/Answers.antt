use Rattle.layer_rules.proofs.Allowed.{file_allowed, file_fits}
use Rattle.layer_rules.proofs.laws.law_files.Goals as goal

pub returns-clause-allowed : goal.returns-clause-allowed
returns-clause-allowed c = file_allowed

pub returns-clause-fits : goal.returns-clause-fits
returns-clause-fits c = file_fits
