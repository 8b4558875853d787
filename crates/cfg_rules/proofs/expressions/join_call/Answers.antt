use Rattle.cfg_rules.proofs.Answering.{if_ok}
use Rattle.cfg_rules.proofs.InOrder.{call_is}
use Rattle.cfg_rules.proofs.expressions.join_call.Goals as goal

pub returns : goal.returns
returns c = if_ok c.from_mark.result c.from_mark.ensures (λ next is plan rule parts. call_is plan _ _ _ _ _ _ _ rule parts.count (λ chain. c.in_ok-here.ensures plan _ chain parts) c.in_ok-stop.ensures is)
