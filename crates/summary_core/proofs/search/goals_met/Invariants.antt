use Rattle.summary_core.proofs.Gathering.{Gathers}
use Rattle.summary_core.proofs.search.goals_met.Given as goal

abbrev pub invariant-loop-entry : goal.invariant-loop-entry
invariant-loop-entry l = Gathers (λ crossing. crossing.to) l.set.met l.opens l.goals.items l.entry-index
