use Rattle.summary_core.proofs.Noting.{Noting}
use Rattle.summary_core.proofs.agenda.Agenda.note.Given as goal

abbrev pub invariant-loop-goal : goal.invariant-loop-goal
invariant-loop-goal l = Noting l.tasks l.asker l.asked l.fn.self l.self l.goal-index
