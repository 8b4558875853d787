-- The board of summaries (ours): a history of pairs, and what is known of each wanted goal.
use Rattle.std.specs.Prelude.{
  ℕ,
  ◌≡◌,
  ◌<◌,
  ◌≤◌,
  ◌↔◌,
  false,
  List,
  [],
  map,
  length,
  slice_index_or,
  None,
  MatchOption,
}
use Rattle.std.specs.List.{All, Contains}
use Rattle.std.specs.List.Sorted.{IsStrictlyIncreasing}
use Rattle.matched_paths.specs.declared.flow_graph.FlowGraph.{FlowGraph}
use Rattle.matched_paths.specs.declared.flow_graph.Pair.{Pair}
use Rattle.matched_paths.specs.Wanted.{IsWanted}
use Rattle.summary_core.specs.declared.task.Stamp.{Stamp}
use Rattle.summary_core.specs.declared.task.Task.{Task}

-- A board: its flow graph and starts, the pairs in the order of their publication, and the wanted
-- goals, each with its stamp and whether it flies.
pub record BoardState : Type 0 where
  pub flow : FlowGraph
  pub starts : List ℕ
  pub history : List Pair
  pub tasks : List Task

-- The goals of the tasks.
abbrev pub goals_of : List Task → List ℕ
goals_of tasks = map (λ task. task.goal) tasks

-- These are the wanted goals, rising.
pub record AreWanted (flow : FlowGraph) (starts goals : List ℕ) : Type 0 where
  pub each : (goal : ℕ) → Contains goals goal ↔ IsWanted flow starts goal
  pub rise : IsStrictlyIncreasing goals

-- A pair at or after the stamp's number begins at a goal that it asked.
pub record IsStale (history : List Pair) (stamp : Stamp) : Type 0 where
  pub pair : Pair
  pub position : ℕ
  pub later : stamp.seen ≤ position
  pub stands : position < length history
  pub is : slice_index_or history position pair ≡ pair
  pub asked : Contains stamp.asked pair.goal

-- A goal is dirty: it has no stamp, or its stamp is stale.
abbrev pub IsDirty : List Pair → Task → Type 0
IsDirty history task = MatchOption task.stamp (Unit {0}) (λ stamp. IsStale history stamp)

-- A goal is dirty and in no flight.
pub record IsClaimable (history : List Pair) (task : Task) : Type 0 where
  pub dirty : IsDirty history task
  pub free : task.flies ≡ false

-- The wanted goal has no stamp and is in no flight.
pub record IsUntouched (task : Task) : Type 0 where
  pub stamp : task.stamp ≡ None
  pub flies : task.flies ≡ false

-- The opening state for a flow graph and starts: no pairs, and all wanted goals untouched.
pub record IsOpening (flow : FlowGraph) (starts : List ℕ) (board : BoardState) : Type 0 where
  pub same_flow : board.flow ≡ flow
  pub same_starts : board.starts ≡ starts
  pub no_pairs : board.history ≡ []
  pub goals : AreWanted flow starts (goals_of board.tasks)
  pub untouched : All IsUntouched board.tasks
