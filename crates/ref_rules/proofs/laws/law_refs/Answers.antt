use Rattle.ref_rules.proofs.Fits.{refs_fit, refs_shape}
use Rattle.ref_rules.proofs.laws.law_refs.Goals as goal

pub returns-clause-fit : goal.returns-clause-fit
returns-clause-fit c = refs_fit

pub returns-clause-shape : goal.returns-clause-shape
returns-clause-shape c = λ caps start graph shaped is. refs_shape start caps graph shaped is
