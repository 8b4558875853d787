-- Matched paths and folded ones.
use Rattle.std.proofs.Common.{ℕ, ◌⊎◌, inl, inr}
use Rattle.matched_paths.specs.declared.flow_graph.FlowGraph.{FlowGraph}
use Rattle.matched_paths.specs.Edges.{Opens, Closes}
use Rattle.matched_paths.specs.Path.{Path, none, step}
use Rattle.matched_paths.specs.Matched as m
use Rattle.matched_paths.specs.Matched.{Matched, Flows, IsTruePair}
use Rattle.matched_paths.specs.Folded as f
use Rattle.matched_paths.specs.Folded.{FoldedStep, Leads, Folded}
use Rattle.matched_paths.proofs.PathLemmas.{path_join, path_each}

module _ (flow : FlowGraph) where
  -- a folded step is a matched path
  pub step_matched : {a b : ℕ} → FoldedStep flow (IsTruePair flow) a b → Matched flow a b
  step_matched (f.flat edge) = m.flat edge
  step_matched (f.bridge call goal out opened true closed) = m.call opened true.matched closed

  pub unfolded : {a b : ℕ} → Leads flow (IsTruePair flow) a b → Matched flow a b
  unfolded none = m.none
  unfolded (step first rest) = m.then (step_matched first) (unfolded rest)

  pub folded : {a b : ℕ} → Matched flow a b → Leads flow (IsTruePair flow) a b
  folded m.none = none
  folded (m.flat edge) = step (f.flat edge) none
  folded (m.then front back) = path_join (folded front) (folded back)
  folded (m.call {call} {a} {goal} {out} {b} opened matched closed) =
      step (f.bridge call goal out opened (record { goal = (_, (_, opened)); out = (_, (_, closed)); matched = matched }) closed) none

  -- a step that may cross, unfolded and folded
  pub unfold_step : (Crosses : ℕ → ℕ → Type 0) (a b : ℕ) → FoldedStep flow (IsTruePair flow) a b ⊎ Crosses a b → Path (λ x y. Matched flow x y ⊎ Crosses x y) a b
  unfold_step Crosses a b (inl folded_step) = step (inl (step_matched folded_step)) none
  unfold_step Crosses a b (inr crosses) = step (inr crosses) none

  pub beside : (Crosses : ℕ → ℕ → Type 0) {a b : ℕ} → Leads flow (IsTruePair flow) a b → Path (λ x y. FoldedStep flow (IsTruePair flow) x y ⊎ Crosses x y) a b
  beside Crosses none = none
  beside Crosses (step first rest) = step (inl first) (beside Crosses rest)

  pub fold_step : (Crosses : ℕ → ℕ → Type 0) (a b : ℕ) → Matched flow a b ⊎ Crosses a b → Path (λ x y. FoldedStep flow (IsTruePair flow) x y ⊎ Crosses x y) a b
  fold_step Crosses a b (inl matched) = beside Crosses (folded matched)
  fold_step Crosses a b (inr crosses) = step (inr crosses) none

  pub flow_folded : {a b : ℕ} → Flows flow a b → Folded flow (IsTruePair flow) a b
  flow_folded path = record {
    turn = path.turn;
    out = path_each (fold_step (Closes flow)) path.out;
    into = path_each (fold_step (Opens flow)) path.into;
  }

  pub flow_unfolded : {a b : ℕ} → Folded flow (IsTruePair flow) a b → Flows flow a b
  flow_unfolded path = record {
    turn = path.turn;
    out = path_each (unfold_step (Closes flow)) path.out;
    into = path_each (unfold_step (Opens flow)) path.into;
  }
