use Rattle.cfg_rules.proofs.Members.{led_nowhere}
use Rattle.cfg_rules.proofs.joined.finish.Goals as goal

pub returns-in-None : goal.returns-in-None
returns-in-None c = rw c.in-None.is (led_nowhere _ _)
