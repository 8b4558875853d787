use Rattle.std.proofs.Common.{refl}
use Rattle.cfg_rules.proofs.Members.{entry_is}
use Rattle.cfg_rules.proofs.arrival.entry.Goals as goal

pub returns : goal.returns
returns c = entry_is _ c.new.ensures.items refl
