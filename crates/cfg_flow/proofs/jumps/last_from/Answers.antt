use Rattle.std.proofs.Common.{sym}
use Rattle.cfg_flow.proofs.Leaping.{none_from, none_of_none}
use Rattle.cfg_flow.proofs.jumps.last_from.Goals as goal

pub returns-in-None : goal.returns-in-None
returns-in-None c = none_of_none _ _ (sym c.in-None.ensures.value)

pub returns-then-jump-x : goal.returns-then-jump-x
returns-then-jump-x c = none_from _ _ c.in-Some.jump.now (sym c.in-Some.ensures.value) c.if-jump-x.true
