use Rattle.summary_core.proofs.Noting.{Waking}
use Rattle.summary_core.proofs.agenda.wake.Given as goal

abbrev pub invariant-loop-asker : goal.invariant-loop-asker
invariant-loop-asker l = Waking l.tasks l.askers l.fn.marks l.marks l.asker-index
