use Rattle.cfg_rules.proofs.Answering.{if_ok}
use Rattle.cfg_rules.proofs.JoinDo.{do_is}
use Rattle.cfg_rules.proofs.loops.join_do.Goals as goal

pub returns : goal.returns
returns c = if_ok c.past.result c.past.ensures (λ next is plan x rule p0 p1 br. do_is plan x _ _ _ _ _ _ _ _ _ _ _ _ rule p0 p1 br c.entry-here.ensures c.in_ok-once.ensures c.in_ok-tested.ensures c.in_ok-ran.ensures is c.in_ok-enter.ensures c.in_ok-enter-2.ensures c.in_ok-enter-3.ensures)
