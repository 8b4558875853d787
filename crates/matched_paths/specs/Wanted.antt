-- Which summaries are wanted (ours): those of goals that some start can lead to.
use Rattle.std.specs.Prelude.{ℕ, ◌⊎◌, List}
use Rattle.std.proofs.Common.{inl, inr}
use Rattle.matched_paths.specs.declared.flow_graph.FlowGraph.{FlowGraph}
use Rattle.matched_paths.specs.declared.flow_graph.Pair.{Pair}
use Rattle.matched_paths.specs.Edges.{HasFlat, Opens, Closes, IsGoal}
use Rattle.matched_paths.specs.Path.{Path, EachStep, IsLedTo}
use Rattle.matched_paths.specs.Matched.{IsTruePair}
use Rattle.matched_paths.specs.Folded as folded
use Rattle.matched_paths.specs.Folded.{FoldedStep, Folded}

-- An edge of any label leads from a to b.
pub data HasEdge (flow : FlowGraph) (a b : ℕ) : Type 0 where
  flat : HasFlat flow a b → HasEdge flow a b
  opens : Opens flow a b → HasEdge flow a b
  closes : Closes flow a b → HasEdge flow a b

-- Edges of any labels lead from one of the starts to the vertex, none or more.
abbrev pub IsMet : FlowGraph → List ℕ → ℕ → Type 0
IsMet flow = IsLedTo (Path (HasEdge flow))

-- A wanted goal: one that is met from the starts.
pub record IsWanted (flow : FlowGraph) (starts : List ℕ) (vertex : ℕ) : Type 0 where
  pub goal : IsGoal flow vertex
  pub met : IsMet flow starts vertex

-- A true pair whose goal is wanted.
pub record IsWantedPair (flow : FlowGraph) (starts : List ℕ) (pair : Pair) : Type 0 where
  pub matched : IsTruePair flow pair
  pub wanted : IsWanted flow starts pair.goal

-- The step is no bridge, or the goal of its pair is wanted.
abbrev pub NeedsWanted : (flow : FlowGraph) (starts : List ℕ) {IsSo : Pair → Type 0} {a b : ℕ} →
    FoldedStep flow IsSo a b → Type 0
NeedsWanted flow starts (folded.flat edge) = Unit {0}
NeedsWanted flow starts (folded.bridge call goal out opened so closed) = IsWanted flow starts goal

-- The same, of a step that may also be an open or a close.
abbrev pub NeedsWantedOr : (flow : FlowGraph) (starts : List ℕ) {IsSo : Pair → Type 0} {a b : ℕ}
    {Crosses : Type 0} → FoldedStep flow IsSo a b ⊎ Crosses → Type 0
NeedsWantedOr flow starts (inl taken) = NeedsWanted flow starts taken
NeedsWantedOr flow starts (inr crosses) = Unit {0}

-- All bridges of a folded path are over pairs of wanted goals.
pub record NeedsWantedAlone (flow : FlowGraph) (starts : List ℕ) {IsSo : Pair → Type 0} {a b : ℕ}
    (path : Folded flow IsSo a b) : Type 0 where
  pub out : EachStep (λ x y step. NeedsWantedOr flow starts step) path.out
  pub into : EachStep (λ x y step. NeedsWantedOr flow starts step) path.into
