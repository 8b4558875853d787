use Rattle.std.proofs.Common.{refl}
use Rattle.cfg_rules.proofs.Members.{from_is}
use Rattle.cfg_rules.proofs.arrival.from_marks.Goals as goal

pub returns : goal.returns
returns c = from_is _ _ refl refl
