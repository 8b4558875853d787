-- Folded paths from a start.
use Rattle.std.proofs.Common.{ℕ, ◌⊎◌, inl, inr, List}
use Rattle.std.specs.List.{Contains}
use Rattle.matched_paths.specs.declared.flow_graph.FlowGraph.{FlowGraph}
use Rattle.matched_paths.specs.Edges.{Opens, Closes}
use Rattle.matched_paths.specs.Path.{Path, EachStep, none, step}
use Rattle.matched_paths.specs.Matched.{IsTruePair}
use Rattle.matched_paths.specs.Folded as f
use Rattle.matched_paths.specs.Folded.{FoldedStep, Folded}
use Rattle.matched_paths.specs.Wanted as w
use Rattle.matched_paths.specs.Wanted.{HasEdge, IsMet, NeedsWanted, NeedsWantedOr, NeedsWantedAlone}
use Rattle.matched_paths.proofs.Folding.{step_matched}
use Rattle.matched_paths.proofs.Closing.{matched_edges, met_on, wanted_goal}

module _ (flow : FlowGraph) (starts : List ℕ) where
  step_needs : {a b : ℕ} → IsMet flow starts a → (taken : FoldedStep flow (IsTruePair flow) a b) → NeedsWanted flow starts taken
  step_needs met (f.flat edge) = tt
  step_needs met (f.bridge call goal out opened true closed) = wanted_goal flow starts met opened

  module _ (Crosses : ℕ → ℕ → Type 0) (crossing : (x y : ℕ) → Crosses x y → HasEdge flow x y) where
    or_edges : {a b : ℕ} → FoldedStep flow (IsTruePair flow) a b ⊎ Crosses a b → Path (HasEdge flow) a b
    or_edges (inl taken) = matched_edges flow (step_matched flow taken)
    or_edges (inr crosses) = step (crossing _ _ crosses) none

    or_needs : {a b : ℕ} → IsMet flow starts a → (taken : FoldedStep flow (IsTruePair flow) a b ⊎ Crosses a b) → NeedsWantedOr flow starts taken
    or_needs met (inl taken) = step_needs met taken
    or_needs met (inr crosses) = tt

    pub part_needs : {a b : ℕ} → IsMet flow starts a → (path : Path (λ x y. FoldedStep flow (IsTruePair flow) x y ⊎ Crosses x y) a b) →
        EachStep (λ x y taken. NeedsWantedOr flow starts taken) path
    part_needs met none = tt
    part_needs met (step first rest) = (or_needs met first, part_needs (met_on flow starts met (or_edges first)) rest)

    pub part_met : {a b : ℕ} → IsMet flow starts a → Path (λ x y. FoldedStep flow (IsTruePair flow) x y ⊎ Crosses x y) a b → IsMet flow starts b
    part_met met none = met
    part_met met (step first rest) = part_met (met_on flow starts met (or_edges first)) rest

  pub needs_wanted : {a b : ℕ} → Contains starts a → (path : Folded flow (IsTruePair flow) a b) → NeedsWantedAlone flow starts path
  needs_wanted {a} {b} from path =
      let met : IsMet flow starts a = record { start = a; among = from; leads = none } in
      record {
        out = part_needs (Closes flow) (λ x y crosses. w.closes crosses) met path.out;
        into = part_needs (Opens flow) (λ x y crosses. w.opens crosses) (part_met (Closes flow) (λ x y crosses. w.closes crosses) met path.out) path.into;
      }
