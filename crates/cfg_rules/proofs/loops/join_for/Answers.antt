use Rattle.cfg_rules.proofs.Answering.{if_ok}
use Rattle.cfg_rules.proofs.JoinFor.{for_is}
use Rattle.cfg_rules.proofs.loops.join_for.Goals as goal

pub returns : goal.returns
returns c = if_ok c.past.result c.past.ensures (λ next is plan x rule p0 p1 p2 p3 br. for_is plan x _ _ _ _ _ _ _ _ _ _ _ _ rule p0 p1 p2 p3 br c.entry-here.ensures c.in_ok-set.ensures c.in_ok-ring.ensures c.in_ok-enter.ensures c.in_ok-lead_round.ensures is)
