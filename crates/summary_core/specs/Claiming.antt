-- How the task to claim is found.
use Rattle.std.specs.Prelude.{ℕ, ◌<◌, List, length, slice_index_or}
use Rattle.matched_paths.specs.declared.flow_graph.Pair.{Pair}
use Rattle.summary_core.specs.declared.task.Task.{Task}
use Rattle.summary_core.specs.Board.{IsClaimable}

-- The task at the position is claimable, and none before it is.
pub record IsFirst (history : List Pair) (tasks : List Task) (position : ℕ) : Type 0 where
  pub stands : position < length tasks
  pub claimable : (d : Task) → IsClaimable history (slice_index_or tasks position d)
  pub first : (k : ℕ) (d : Task) → k < position → ¬ IsClaimable history (slice_index_or tasks k d)
