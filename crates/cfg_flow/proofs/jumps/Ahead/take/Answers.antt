use Rattle.cfg_flow.proofs.jumps.Ahead.take.Goals as goal

pub returns : goal.returns
returns c = λ plan ahead. record {
  targets = c.in_ok-targets.ensures plan.targets.items ahead.targets;
  breaks = c.in_ok-breaks.ensures plan.breaks.items ahead.breaks;
  continues = c.in_ok-continues.ensures plan.continues.items ahead.continues;
}
