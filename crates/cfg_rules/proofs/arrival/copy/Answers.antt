use Rattle.std.proofs.Common.{refl}
use Rattle.cfg_rules.proofs.Members.{same_is}
use Rattle.cfg_rules.proofs.arrival.copy.Goals as goal

pub returns : goal.returns
returns c = same_is _ _ c.in_ok-marks.ensures refl
