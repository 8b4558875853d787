-- Realizable paths: each return goes to its own call (Reps, Horwitz and Sagiv 1995).
use Rattle.std.specs.Prelude.{ℕ, ◌⊎◌}
use Rattle.matched_paths.specs.declared.flow_graph.FlowGraph.{FlowGraph}
use Rattle.matched_paths.specs.declared.flow_graph.Pair.{Pair}
use Rattle.matched_paths.specs.Edges.{HasFlat, HasOpen, HasClose, Opens, Closes, IsGoal, IsOut}
use Rattle.matched_paths.specs.Path.{Path}

-- A path leads from a to b whose calls and returns match: the least relation with the empty path,
-- flat edges, one path after another, and a path between an open and a close of the same call.
pub data Matched (flow : FlowGraph) : ℕ → ℕ → Type 0 where
  none : {a : ℕ} → Matched flow a a
  flat : {a b : ℕ} → HasFlat flow a b → Matched flow a b
  then : {a b c : ℕ} → Matched flow a b → Matched flow b c → Matched flow a c
  call : {call a goal out b : ℕ} → HasOpen flow call a goal → Matched flow goal out →
      HasClose flow call out b → Matched flow a b

-- Data flows from a to b: out of methods by matched paths and closes, and then into methods by
-- matched paths and opens.
pub record Flows (flow : FlowGraph) (a b : ℕ) : Type 0 where
  pub turn : ℕ
  pub out : Path (λ x y. Matched flow x y ⊎ Closes flow x y) a turn
  pub into : Path (λ x y. Matched flow x y ⊎ Opens flow x y) turn b

-- A true pair: a goal and an out, and a matched path leads from the one to the other.
pub record IsTruePair (flow : FlowGraph) (pair : Pair) : Type 0 where
  pub goal : IsGoal flow pair.goal
  pub out : IsOut flow pair.out
  pub matched : Matched flow pair.goal pair.out
