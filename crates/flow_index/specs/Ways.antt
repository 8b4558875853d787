-- Ways, which are edges without labels, and what they lead to.
use Rattle.std.specs.Prelude.{ℕ, ◌≡◌, ◌↔◌, ◌++◌, List}
use Rattle.std.specs.List.{All, Contains}
use Rattle.matched_paths.specs.declared.flow_graph.FlowGraph.{FlowGraph}
use Rattle.matched_paths.specs.declared.flow_graph.Pair.{Pair}
use Rattle.matched_paths.specs.Ends.{HasEndsAmong}
use Rattle.matched_paths.specs.Edges.{HasOpen, HasClose}
use Rattle.matched_paths.specs.Folded.{FoldedStep}
use Rattle.matched_paths.specs.Path.{IsLedTo, Path}

-- Both ends of each way are among so many vertices.
abbrev pub AreAmong : ℕ → List (ℕ × ℕ) → Type 0
AreAmong count = All (HasEndsAmong count)

-- A way leads from a to b.
abbrev pub HasWay : List (ℕ × ℕ) → ℕ → ℕ → Type 0
HasWay ways a b = Contains ways (a, b)

-- Ways lead from a start to the vertex, none or more.
abbrev pub IsReached : List (ℕ × ℕ) → List ℕ → ℕ → Type 0
IsReached ways = IsLedTo (Path (HasWay ways))

-- A bridge over the pair leads along the way: a call opens its goal from the one end, and closes
-- its out to the other.
pub record BridgesOver (flow : FlowGraph) (pair : Pair) (way : ℕ × ℕ) : Type 0 where
  pub call : ℕ
  pub opened : HasOpen flow call way.0 pair.goal
  pub closed : HasClose flow call pair.out way.1

-- The way leads to this vertex from where the call opens the goal.
pub record Enters (flow : FlowGraph) (to call goal : ℕ) (way : ℕ × ℕ) : Type 0 where
  pub ends : way.1 ≡ to
  pub opened : HasOpen flow call way.0 goal

-- A bridge over one of the pairs leads from a to b.
pub record Bridges (flow : FlowGraph) (pairs : List Pair) (a b : ℕ) : Type 0 where
  pub pair : Pair
  pub stands : Contains pairs pair
  pub over : BridgesOver flow pair (a, b)

-- All ways that are so are added, and no others.
pub record AddsAll (IsSo : ℕ × ℕ → Type 0) (before after : List (ℕ × ℕ)) : Type 0 where
  pub more : List (ℕ × ℕ)
  pub kept : after ≡ before ++ more
  pub new : All IsSo more
  pub all : (way : ℕ × ℕ) → IsSo way → Contains after way

-- The ways are the steps of folded paths over the pairs: flat edges and bridges.
abbrev pub AreSteps : FlowGraph → List Pair → List (ℕ × ℕ) → Type 0
AreSteps flow pairs ways = (a b : ℕ) →
    Contains ways (a, b) ↔ FoldedStep flow (Contains pairs) a b
