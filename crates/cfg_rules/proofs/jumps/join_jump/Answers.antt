use Rattle.std.proofs.Common.{inl, inr}
use Rattle.cfg_rules.proofs.JoinBreak.{break_is}
use Rattle.cfg_rules.proofs.JoinContinue.{continue_is}
use Rattle.cfg_rules.proofs.jumps.join_jump.Goals as goal

pub returns : goal.returns
returns c = λ plan. elim [
  | inl rule ↦ break_is plan _ _ _ _ _ rule c.entry-here.ensures c.in_ok-stop.ensures c.nowhere.ensures
  | inr rule ↦ continue_is plan _ _ _ _ _ rule c.entry-here.ensures c.in_ok-stop.ensures c.nowhere.ensures
]
