-- Which tasks of a board are claimable, and who asked for which goal (ours).
use Rattle.std.specs.Prelude.{
  ℕ,
  ◌≡◌,
  ◌<◌,
  ◌≤◌,
  ◌⊎◌,
  ◌↔◌,
  true,
  false,
  List,
  [],
  map,
  take,
  length,
  slice_index,
  slice_index_or,
  slice_set,
  Some,
}
use Rattle.std.specs.List.{All, Contains}
use Rattle.matched_paths.specs.declared.flow_graph.Pair.{Pair}
use Rattle.summary_core.specs.declared.agenda.Agenda.{Agenda}
use Rattle.summary_core.specs.declared.agenda.Asker.{Asker}
use Rattle.summary_core.specs.declared.marks.Marks.{Marks}
use Rattle.summary_core.specs.declared.task.Stamp.{Stamp}
use Rattle.summary_core.specs.declared.task.Task.{Task}
use Rattle.summary_core.specs.Searches.{Asks}
use Rattle.summary_core.specs.Board.{BoardState, goals_of, IsClaimable, IsDirty, IsStale}
use Rattle.summary_core.specs.Marking.{IsMarked, IsTree}

-- The task stands at the position.
abbrev pub IsAt : List Task → ℕ → Task → Type 0
IsAt tasks position task =
    (position < length tasks) × (slice_index_or tasks position task ≡ task)

-- For each task, who asked for its goal.
abbrev pub lists_of : Agenda → List (List Asker)
lists_of agenda = map (λ list. list.items) agenda.askers.items

-- Who asked for the goal of the task at the position.
abbrev pub askers_of : Agenda → ℕ → List Asker
askers_of agenda position = slice_index_or (lists_of agenda) position []

-- A pair that is not among the first so many begins at the goal.
pub record HasLater (history : List Pair) (goal seen : ℕ) : Type 0 where
  pub pair : Pair
  pub position : ℕ
  pub later : seen ≤ position
  pub stands : position < length history
  pub is : slice_index_or history position pair ≡ pair
  pub of_goal : pair.goal ≡ goal

-- The numbers tell how many pairs there are up to the last one that begins at a task's goal, and
-- each pair begins at such a goal.
pub record TellsLatest (history : List Pair) (tasks : List Task) (latest : List ℕ) : Type 0 where
  pub len : length latest ≡ length tasks
  pub each : (position : ℕ) (task : Task) (seen : ℕ) → IsAt tasks position task →
      (seen < slice_index latest position) ↔ HasLater history task.goal seen
  pub owned : All (λ pair. Contains (goals_of tasks) pair.goal) history

-- A search from the task's goal over as many pairs asks for the goal.
pub record IsAsker (board : BoardState) (goal : ℕ) (asker : Asker) : Type 0 where
  pub task : Task
  pub at : IsAt board.tasks asker.task task
  pub seen : asker.seen ≤ length board.history
  pub asks : Asks board.flow (take asker.seen board.history) task.goal goal

-- Exactly the claimable tasks are marked, and what flies is dirty. Those who asked are searches,
-- and each stamp that is not stale is among those who asked for its goals.
pub record KeepsAgenda (board : BoardState) (agenda : Agenda) : Type 0 where
  pub tree : IsTree agenda.marks
  pub count : agenda.marks.count ≡ length board.tasks
  pub marked : (position : ℕ) (task : Task) → IsAt board.tasks position task →
      IsMarked agenda.marks position ↔ IsClaimable board.history task
  pub flying : (position : ℕ) (task : Task) → IsAt board.tasks position task →
      task.flies ≡ true → IsDirty board.history task
  pub latest : TellsLatest board.history board.tasks agenda.latest.items
  pub lists : length (lists_of agenda) ≡ length board.tasks
  pub sound : (position : ℕ) (task : Task) → IsAt board.tasks position task →
      All (IsAsker board task.goal) (askers_of agenda position)
  pub complete : (position other : ℕ) (task asking : Task) (stamp : Stamp) →
      IsAt board.tasks position task → IsAt board.tasks other asking →
      asking.stamp ≡ Some stamp → ¬ IsStale board.history stamp →
      Contains stamp.asked task.goal →
      Contains (askers_of agenda position) (record { task = other; seen = stamp.seen })

-- As many tasks are marked, no pairs are told of, and nobody asked.
pub record IsFresh (count : ℕ) (agenda : Agenda) : Type 0 where
  pub tree : IsTree agenda.marks
  pub count_is : agenda.marks.count ≡ count
  pub marked : (position : ℕ) → position < count → IsMarked agenda.marks position
  pub latest_len : length agenda.latest.items ≡ count
  pub latest : All (λ number. number ≡ 0) agenda.latest.items
  pub lists_len : length agenda.askers.items ≡ count
  pub lists : All (λ list. list.items ≡ []) agenda.askers.items

-- The asker was added to lists of tasks whose goals were asked, and nothing else changed.
pub record Notes (tasks : List Task) (asker : Asker) (asked : List ℕ) (before after : Agenda) :
    Type 0 where
  pub marks : after.marks ≡ before.marks
  pub latest : after.latest.items ≡ before.latest.items
  pub len : length (lists_of after) ≡ length (lists_of before)
  pub kept : (position : ℕ) (other : Asker) → Contains (askers_of before position) other →
      Contains (askers_of after position) other
  pub new : (position : ℕ) (task : Task) (other : Asker) → IsAt tasks position task →
      Contains (askers_of after position) other →
      Contains (askers_of before position) other ⊎ ((other ≡ asker) × Contains asked task.goal)

-- The asker is in the lists of all tasks whose goals were asked.
abbrev pub IsNoted : List Task → Asker → List ℕ → Agenda → Type 0
IsNoted tasks asker asked agenda = (position : ℕ) (task : Task) → IsAt tasks position task →
    Contains asked task.goal → Contains (askers_of agenda position) asker

-- The task is in no flight, and its stamp's search saw so many pairs.
pub record IsSearched (task : Task) (seen : ℕ) : Type 0 where
  pub free : task.flies ≡ false
  pub stamp : Stamp
  pub has : task.stamp ≡ Some stamp
  pub saw : stamp.seen ≡ seen

-- One of the askers is the search of the task at the position.
pub record IsWoken (tasks : List Task) (askers : List Asker) (position : ℕ) : Type 0 where
  pub asker : Asker
  pub stands : Contains askers asker
  pub same : asker.task ≡ position
  pub searched : (d : Task) → IsSearched (slice_index_or tasks position d) asker.seen

-- The tasks whose search is one of the askers are marked, and the marks of the others stay.
pub record Wakes (tasks : List Task) (askers : List Asker) (before after : Marks) : Type 0 where
  pub tree : IsTree after
  pub count : after.count ≡ before.count
  pub marked : (position : ℕ) →
      IsMarked after position ↔ (IsMarked before position ⊎ IsWoken tasks askers position)

-- The last of so many pairs begins at the goal of the task at the position: those who asked for it
-- are marked, and nobody asks now.
pub record Tells (tasks : List Task) (position len : ℕ) (before after : Agenda) : Type 0 where
  pub wakes : Wakes tasks (askers_of before position) before.marks after.marks
  pub latest : after.latest.items ≡ slice_set before.latest.items position len
  pub lists : lists_of after ≡ slice_set (lists_of before) position []
