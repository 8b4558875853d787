use Rattle.cfg_rules.proofs.Answering.{if_ok}
use Rattle.cfg_rules.proofs.JoinJumpTarget.{jump_target_is}
use Rattle.cfg_rules.proofs.statements.join_jump_target.Goals as goal

pub returns : goal.returns
returns c = if_ok c.leave.result c.leave.ensures (λ next is plan rule p1. jump_target_is plan _ _ _ _ _ _ _ _ rule p1 c.entry-here.ensures c.in_ok-stop.ensures c.in_ok-start.ensures c.in_ok-enter.ensures is)
