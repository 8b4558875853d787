use Rattle.cfg_rules.proofs.Answering.{if_ok}
use Rattle.cfg_rules.proofs.JoinIf.{if_is}
use Rattle.cfg_rules.proofs.statements.join_if.Goals as goal

pub returns : goal.returns
returns c = if_ok c.leave_either.result c.leave_either.ensures (λ next is plan x rule p0 p1 p2. if_is plan x _ _ _ _ _ _ _ _ _ _ rule p0 p1 p2 c.entry-here.ensures c.in_ok-tested.ensures is c.in_ok-enter.ensures c.in_ok-enter-2.ensures c.in_ok-enter-3.ensures)
