-- What may happen to a board: a goal is claimed, published or abandoned.
use Rattle.std.specs.Prelude.{
  ℕ,
  ◌≡◌,
  ◌<◌,
  ◌≤◌,
  ◌==◌,
  true,
  false,
  List,
  [],
  ◌∷◌,
  ◌++◌,
  map,
  take,
  length,
  Some,
  if◌then◌else◌,
}
use Rattle.std.specs.List.{All, AllPairs, Contains}
use Rattle.matched_paths.specs.declared.flow_graph.Pair.{Pair}
use Rattle.summary_core.specs.declared.found.Found.{Found}
use Rattle.summary_core.specs.declared.task.Task.{Task}
use Rattle.summary_core.specs.Searches.{IsFoundOf}
use Rattle.summary_core.specs.Board.{BoardState, IsClaimable}

-- The board has a task for the goal, which is so.
pub record HasTask (IsSo : Task → Type 0) (board : BoardState) (goal : ℕ) : Type 0 where
  pub task : Task
  pub stands : Contains board.tasks task
  pub of_goal : task.goal ≡ goal
  pub so : IsSo task

-- The goal is in flight.
abbrev pub Flies : BoardState → ℕ → Type 0
Flies = HasTask (λ task. task.flies ≡ true)

-- No goal is in flight.
abbrev pub NoneFlies : BoardState → Type 0
NoneFlies board = (goal : ℕ) → ¬ Flies board goal

-- The tasks with that of the goal changed.
abbrev pub changed : ℕ → (Task → Task) → List Task → List Task
changed goal change tasks = map (λ task. if task.goal == goal then change task else task) tasks

-- The goal is the least that is dirty and in no flight. It flies.
pub record Claims (board : BoardState) (goal : ℕ) (after : BoardState) : Type 0 where
  pub claimable : HasTask (IsClaimable board.history) board goal
  pub least : All (λ task. task.goal < goal → ¬ IsClaimable board.history task) board.tasks
  pub changes : after ≡ record board {
    tasks = changed goal (λ task. record task { flies = true }) board.tasks;
  }

-- No goal is dirty and in no flight, and the board stays.
pub record FindsNone (board after : BoardState) : Type 0 where
  pub none : All (λ task. ¬ IsClaimable board.history task) board.tasks
  pub same : after ≡ board

-- The pairs of the goal and the outs that do not stand in the history, rising.
pub record AreNew (history : List Pair) (goal : ℕ) (outs : List ℕ) (new : List Pair) : Type 0 where
  pub each : All (λ pair. (pair.goal ≡ goal) × Contains outs pair.out × ¬ Contains history pair) new
  pub all : (out : ℕ) → Contains outs out →
      Contains (history ++ new) (record { goal = goal; out = out })
  pub rise : AllPairs (λ a b. a.out < b.out) new

-- These new pairs were added at the end.
pub record AddsNew (before : List Pair) (goal : ℕ) (outs : List ℕ) (after : List Pair) :
    Type 0 where
  pub new : List Pair
  pub kept : after ≡ before ++ new
  pub are_new : AreNew before goal outs new

-- The goal flies, and this was found over the first pairs of the history. The new pairs are added,
-- the goal is stamped, and its flight ends.
pub record Publishes (board : BoardState) (goal : ℕ) (found : Found) (after : BoardState) :
    Type 0 where
  pub flies : Flies board goal
  pub seen : found.seen ≤ length board.history
  pub was_found : IsFoundOf board.flow (take found.seen board.history) goal found
  pub new : List Pair
  pub are_new : AreNew board.history goal found.outs new
  pub changes : after ≡ record board {
    history = board.history ++ new;
    tasks = changed goal (λ task. record task {
      stamp = Some (record { seen = found.seen; asked = found.asked });
      flies = false;
    }) board.tasks;
  }

-- The flight of the goal ends.
pub record Abandons (board : BoardState) (goal : ℕ) (after : BoardState) : Type 0 where
  pub flies : Flies board goal
  pub changes : after ≡ record board {
    tasks = changed goal (λ task. record task { flies = false }) board.tasks;
  }

pub data Event : Type 0 where
  Claim : (goal : ℕ) → Event
  Publish : (goal : ℕ) (found : Found) → Event
  Abandon : (goal : ℕ) → Event

-- The event makes one board of the other.
abbrev pub Makes : BoardState → Event → BoardState → Type 0
Makes board (Claim goal) after = Claims board goal after
Makes board (Publish goal found) after = Publishes board goal found after
Makes board (Abandon goal) after = Abandons board goal after

-- The events, one after another, make one board of the other.
abbrev pub Runs : BoardState → List Event → BoardState → Type 0
Runs board [] after = board ≡ after
Runs board (event ∷ events) after =
    (next : BoardState) × Makes board event next × Runs next events after
