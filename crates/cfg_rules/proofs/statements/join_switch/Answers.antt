use Rattle.cfg_rules.proofs.Answering.{if_ok}
use Rattle.cfg_rules.proofs.JoinSwitch.{switch_is}
use Rattle.cfg_rules.proofs.statements.join_switch.Goals as goal

pub returns : goal.returns
returns c = if_ok c.past-2.result c.past-2.ensures (λ next is plan x rule p0 p1 le br. switch_is plan x _ _ _ _ _ _ _ _ _ _ _ rule p0 p1 le br c.entry-here.ensures c.in_ok-tested.ensures c.in_ok-enter.ensures c.in_ok-lead.ensures c.in_ok-ran.ensures is)
