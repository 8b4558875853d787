use Rattle.summary_core.proofs.Wanting.{MeetsGoals}
use Rattle.summary_core.proofs.wanted.goals.Given as goal

abbrev pub invariant-loop-entry : goal.invariant-loop-entry
invariant-loop-entry l = MeetsGoals l.flow l.set l.entry-index
