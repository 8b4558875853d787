use Rattle.cfg_rules.proofs.JoinMethod.{method_is}
use Rattle.cfg_rules.proofs.jumps.join_method.Goals as goal

pub returns : goal.returns
returns c = λ plan rule p0 fi. method_is plan _ _ _ _ _ _ _ _ _ rule p0 fi c.in_ok-start.ensures c.in_ok-enter.ensures c.in_ok-ended.ensures c.in_ok-finish.ensures c.entry.ensures
