-- Flows from some starts.
use Rattle.std.specs.Prelude.{ℕ, ◌↔◌, List}
use Rattle.std.specs.List.{Contains}
use Rattle.matched_paths.specs.declared.flow_graph.FlowGraph.{FlowGraph}
use Rattle.matched_paths.specs.Matched.{Flows}
use Rattle.matched_paths.specs.Path.{IsLedTo}

-- A flow leads from one of the starts to the vertex, perhaps the empty one.
abbrev pub FlowsFrom : FlowGraph → List ℕ → ℕ → Type 0
FlowsFrom flow = IsLedTo (Flows flow)

-- These are the vertices to which a flow leads from one of the starts.
abbrev pub IsReachedFrom : FlowGraph → List ℕ → List ℕ → Type 0
IsReachedFrom flow starts reached = (vertex : ℕ) →
    Contains reached vertex ↔ FlowsFrom flow starts vertex
