use Rattle.std.proofs.Common.{subst, sym}
use Rattle.turn_lock.specs.Rolls.{IsReady}
use Rattle.turn_lock.proofs.roll.visit_all.Goals as goal

pub for_each_mut-requires-clause-accepts : goal.for_each_mut-requires-clause-accepts
for_each_mut-requires-clause-accepts g c κs within i p below is =
    subst (λ worker. IsReady c.args.turn.now worker.seat) (sym is) (c.requires i p.now below)
