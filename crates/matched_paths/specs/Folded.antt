-- Folded paths: what lies between a call and its return is one step.
use Rattle.std.specs.Prelude.{ℕ, ◌⊎◌, List}
use Rattle.std.specs.List.{Contains}
use Rattle.matched_paths.specs.declared.flow_graph.FlowGraph.{FlowGraph}
use Rattle.matched_paths.specs.declared.flow_graph.Pair.{Pair}
use Rattle.matched_paths.specs.Edges.{HasFlat, HasOpen, HasClose, Opens, Closes, IsOut}
use Rattle.matched_paths.specs.Path.{Path}

-- A flat edge leads from a to b; or a bridge, over a pair that is so: the open of a call leads from
-- a to the pair's goal, and a close of the same call from the pair's out to b.
pub data FoldedStep (flow : FlowGraph) (IsSo : Pair → Type 0) (a b : ℕ) : Type 0 where
  flat : HasFlat flow a b → FoldedStep flow IsSo a b
  bridge : (call goal out : ℕ) → HasOpen flow call a goal →
      IsSo (record { goal = goal; out = out }) → HasClose flow call out b →
      FoldedStep flow IsSo a b

-- Flat edges and bridges over such pairs lead from a to b.
abbrev pub Leads : FlowGraph → (Pair → Type 0) → ℕ → ℕ → Type 0
Leads flow IsSo = Path (FoldedStep flow IsSo)

-- Such a path leads from the goal to the out.
pub record LeadsOut (flow : FlowGraph) (IsSo : Pair → Type 0) (goal out : ℕ) : Type 0 where
  pub is_out : IsOut flow out
  pub leads : Leads flow IsSo goal out

-- The pairs hold, for each goal that is so, all outs that flat edges and bridges over them lead to.
abbrev pub HoldsOutsOf : FlowGraph → (ℕ → Type 0) → List Pair → Type 0
HoldsOutsOf flow IsSo pairs = (goal out : ℕ) → IsSo goal →
    LeadsOut flow (Contains pairs) goal out →
    Contains pairs (record { goal = goal; out = out })

-- A folded path over such pairs: flat edges, bridges and closes, and then flat edges, bridges and
-- opens.
pub record Folded (flow : FlowGraph) (IsSo : Pair → Type 0) (a b : ℕ) : Type 0 where
  pub turn : ℕ
  pub out : Path (λ x y. FoldedStep flow IsSo x y ⊎ Closes flow x y) a turn
  pub into : Path (λ x y. FoldedStep flow IsSo x y ⊎ Opens flow x y) turn b
