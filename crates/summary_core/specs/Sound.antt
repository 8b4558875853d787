-- Sound boards, and those on which nothing is left to do.
use Rattle.std.specs.Prelude.{ℕ, ◌≢◌, ◌<◌, ◌≤◌, ◌↔◌, List, take, length, MatchOption}
use Rattle.std.specs.List.{All, AllPairs, Contains}
use Rattle.std.specs.List.Sorted.{IsStrictlyIncreasing}
use Rattle.matched_paths.specs.declared.flow_graph.FlowGraph.{FlowGraph}
use Rattle.matched_paths.specs.declared.flow_graph.Pair.{Pair}
use Rattle.matched_paths.specs.Folded.{LeadsOut}
use Rattle.matched_paths.specs.Wanted.{IsWantedPair}
use Rattle.summary_core.specs.declared.task.Stamp.{Stamp}
use Rattle.summary_core.specs.declared.task.Task.{Task}
use Rattle.summary_core.specs.Searches.{Asks}
use Rattle.summary_core.specs.Events.{NoneFlies}
use Rattle.summary_core.specs.Board.{
  BoardState,
  AreWanted,
  goals_of,
  IsDirty,
}

-- No pair stands twice.
abbrev pub EachOnce : List Pair → Type 0
EachOnce pairs = AllPairs (λ a b. a ≢ b) pairs

-- The stamp of a goal tells of a search over the first pairs: it has the goals that this search
-- asks, and all outs that it finds stand with the goal in the history.
pub record IsStampOf (flow : FlowGraph) (history : List Pair) (goal : ℕ) (stamp : Stamp) :
    Type 0 where
  pub seen : stamp.seen ≤ length history
  pub asked : (asked : ℕ) →
      Contains stamp.asked asked ↔ Asks flow (take stamp.seen history) goal asked
  pub asked_rise : IsStrictlyIncreasing stamp.asked
  pub outs : (out : ℕ) → LeadsOut flow (Contains (take stamp.seen history)) goal out →
      Contains history (record { goal = goal; out = out })

-- The task has no stamp, or one that tells of a search from its goal.
abbrev pub HasSoundStamp : FlowGraph → List Pair → Task → Type 0
HasSoundStamp flow history task =
    MatchOption task.stamp (Unit {0}) (λ stamp. IsStampOf flow history task.goal stamp)

-- A sound board: its tasks are those of the wanted goals, its history has true pairs of wanted
-- goals alone, each once, and its stamps tell of searches.
pub record IsSound (board : BoardState) : Type 0 where
  pub goals : AreWanted board.flow board.starts (goals_of board.tasks)
  pub pairs : All (IsWantedPair board.flow board.starts) board.history
  pub once : EachOnce board.history
  pub stamps : All (HasSoundStamp board.flow board.history) board.tasks

-- No goal is dirty, and none flies.
pub record IsQuiet (board : BoardState) : Type 0 where
  pub clean : All (λ task. ¬ IsDirty board.history task) board.tasks
  pub landed : NoneFlies board

-- The list holds exactly the true pairs of wanted goals, each once.
pub record HoldsWanted (flow : FlowGraph) (starts : List ℕ) (pairs : List Pair) : Type 0 where
  pub exact : (pair : Pair) → Contains pairs pair ↔ IsWantedPair flow starts pair
  pub once : EachOnce pairs

-- What is always so of a board: its starts are vertices, and it is sound.
pub record IsKeptBoard (board : BoardState) : Type 0 where
  pub starts : All (λ start. start < board.flow.vertices) board.starts
  pub sound : IsSound board
