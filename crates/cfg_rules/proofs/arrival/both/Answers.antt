use Rattle.std.proofs.Common.{inl, inr, ◌∙◌}
use Rattle.cfg_rules.proofs.Members.{both_is}
use Rattle.cfg_rules.proofs.arrival.both.Goals.{then-there, else-there}
use Rattle.cfg_rules.proofs.arrival.both.Goals as goal

pub returns : goal.returns
returns c = both_is _ _ _ c.in_ok-marks.ensures
    (elim c.if-there.branch [
      | then-there w ↦ inl (w.if-there.true, w.entered-is ∙ w.if-there.true)
      | else-there w ↦ inr (w.if-there.false, w.entered-is)
    ])
