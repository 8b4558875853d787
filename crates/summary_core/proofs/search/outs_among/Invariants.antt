use Rattle.summary_core.proofs.Gathering.{Gathers}
use Rattle.summary_core.proofs.search.outs_among.Given as goal

abbrev pub invariant-loop-close : goal.invariant-loop-close
invariant-loop-close l = Gathers (λ crossing. crossing.from) l.set.met l.closes l.outs.items l.close-index
