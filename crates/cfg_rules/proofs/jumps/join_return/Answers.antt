use Rattle.cfg_rules.proofs.JoinReturn.{return_is}
use Rattle.cfg_rules.proofs.jumps.join_return.Goals as goal

pub returns : goal.returns
returns c = λ plan rule p0 fi. return_is plan _ _ _ _ _ _ _ _ _ _ _ rule p0 fi c.entry-here.ensures c.in_ok-ended.ensures c.in_ok-start.ensures c.in_ok-enter.ensures c.in_ok-stop.ensures c.in_ok-finish.ensures c.nowhere-gone.ensures
