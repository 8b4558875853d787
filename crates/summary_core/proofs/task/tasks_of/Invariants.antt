use Rattle.std.proofs.Common.{◌≡◌}
use Rattle.std.specs.Prelude.{take}
use Rattle.std.specs.List.{All}
use Rattle.summary_core.specs.Board.{goals_of, IsUntouched}
use Rattle.summary_core.proofs.task.tasks_of.Given as goal

abbrev pub invariant-loop-goal : goal.invariant-loop-goal
invariant-loop-goal l = (goals_of l.tasks.items ≡ take l.goal-index l.goals) × All IsUntouched l.tasks.items
