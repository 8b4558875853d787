use Rattle.cfg_rules.proofs.JoinEndless.{endless_is}
use Rattle.cfg_rules.proofs.loops.join_endless.Goals as goal

pub returns : goal.returns
returns c = λ plan x rule p0 p1 p2 p3 br. endless_is plan x _ _ _ _ _ _ _ _ _ _ _ _ rule p0 p1 p2 p3 br c.entry-here.ensures c.in_ok-set.ensures c.in_ok-ring.ensures c.in_ok-enter.ensures c.in_ok-lead_round.ensures c.from_marks.ensures
