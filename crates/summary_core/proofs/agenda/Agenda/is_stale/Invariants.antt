use Rattle.std.proofs.Common.{ℕ, ◌<◌, List, length, get_or}
use Rattle.matched_paths.specs.declared.flow_graph.Pair.{Pair}
use Rattle.summary_core.specs.Agenda.{HasLater, TellsLatest}
use Rattle.summary_core.proofs.agenda.Agenda.is_stale.Given as goal

abbrev pub invariant-loop-goal : goal.invariant-loop-goal
invariant-loop-goal l = (history : List Pair) → TellsLatest history l.tasks l.self.latest.items → (k : ℕ) → k < l.goal-index → k < length l.stamp.asked → ¬ HasLater history (get_or l.stamp.asked k 0) l.stamp.seen
