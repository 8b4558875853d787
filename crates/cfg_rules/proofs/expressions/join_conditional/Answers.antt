use Rattle.cfg_rules.proofs.Answering.{if_ok}
use Rattle.cfg_rules.proofs.JoinConditional.{conditional_is}
use Rattle.cfg_rules.proofs.expressions.join_conditional.Goals as goal

pub returns : goal.returns
returns c = if_ok c.from_mark.result c.from_mark.ensures (λ next is plan rule p0 p1 p2. conditional_is plan _ _ _ _ _ _ _ _ _ _ _ _ _ rule p0 p1 p2 c.entry-here.ensures c.in_ok-tested.ensures c.in_ok-ended.ensures c.in_ok-enter.ensures c.in_ok-enter-2.ensures c.in_ok-enter-3.ensures c.in_ok-stop.ensures is)
