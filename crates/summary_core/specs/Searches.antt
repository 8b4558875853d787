-- What a search from a goal finds (ours): over flat edges, and bridges over a list of pairs.
use Rattle.std.specs.Prelude.{ℕ, ◌≡◌, ◌↔◌, List, length}
use Rattle.std.specs.List.{Contains}
use Rattle.std.specs.List.Sorted.{IsStrictlyIncreasing}
use Rattle.matched_paths.specs.declared.flow_graph.Crossing.{Crossing}
use Rattle.matched_paths.specs.declared.flow_graph.FlowGraph.{FlowGraph}
use Rattle.matched_paths.specs.declared.flow_graph.Pair.{Pair}
use Rattle.matched_paths.specs.Edges.{Opens}
use Rattle.matched_paths.specs.Folded.{Leads, LeadsOut}
use Rattle.summary_core.specs.declared.found.Found.{Found}

-- The search from the goal meets an open to the asked goal.
pub record Asks (flow : FlowGraph) (pairs : List Pair) (goal asked : ℕ) : Type 0 where
  pub vertex : ℕ
  pub met : Leads flow (Contains pairs) goal vertex
  pub opens : Opens flow vertex asked

-- What is found from the goal over these pairs: the outs that are reached and the goals that are
-- asked, rising, and how many pairs there are.
pub record IsFoundOf (flow : FlowGraph) (pairs : List Pair) (goal : ℕ) (found : Found) :
    Type 0 where
  pub outs : (out : ℕ) → Contains found.outs out ↔ LeadsOut flow (Contains pairs) goal out
  pub outs_rise : IsStrictlyIncreasing found.outs
  pub asked : (asked : ℕ) → Contains found.asked asked ↔ Asks flow pairs goal asked
  pub asked_rise : IsStrictlyIncreasing found.asked
  pub seen : found.seen ≡ length pairs

-- A crossing leaves one of the vertices, and this is its end.
pub record IsEndOf (end_of : Crossing → ℕ) (met : List ℕ) (crossings : List Crossing)
    (vertex : ℕ) : Type 0 where
  pub crossing : Crossing
  pub stands : Contains crossings crossing
  pub among : Contains met crossing.from
  pub end : end_of crossing ≡ vertex
