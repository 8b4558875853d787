use Rattle.cfg_rules.proofs.Answering.{if_ok}
use Rattle.cfg_rules.proofs.JoinWhile.{while_is}
use Rattle.cfg_rules.proofs.loops.join_while.Goals as goal

pub returns : goal.returns
returns c = if_ok c.past.result c.past.ensures (λ next is plan x rule p0 p1 br. while_is plan x _ _ _ _ _ _ _ _ _ _ _ _ rule p0 p1 br c.entry-here.ensures c.in_ok-once.ensures c.in_ok-ran.ensures c.in_ok-tested.ensures is c.in_ok-enter.ensures c.in_ok-enter-2.ensures c.in_ok-enter-3.ensures)
