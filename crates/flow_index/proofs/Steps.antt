-- The steps of folded paths, as ways.
use Rattle.std.proofs.Common.{◌≡◌, ℕ, ◌<◌, inl, inr, List, ◌++◌, get_or, sym, subst}
use Rattle.std.specs.List.{Contains}
use Rattle.std.proofs.lemmas.List.Elements.{All-contains, Contains-append_left, Contains-append_right, Contains-append_cases, Contains-get_or}
use Rattle.matched_paths.specs.declared.flow_graph.FlowGraph.{FlowGraph}
use Rattle.matched_paths.specs.declared.flow_graph.Pair.{Pair}
use Rattle.matched_paths.specs.Ends.{IsAmong}
use Rattle.matched_paths.specs.Folded as f
use Rattle.matched_paths.specs.Folded.{FoldedStep}
use Rattle.flow_index.specs.Ways.{AreAmong, AreSteps, Bridges}

module _ (flow : FlowGraph) (pairs : List Pair) where
  pub steps_of : (bridges ways : List (ℕ × ℕ)) → ((a b : ℕ) → (Contains bridges (a, b) → Bridges flow pairs a b) × (Bridges flow pairs a b → Contains bridges (a, b))) →
      ways ≡ bridges ++ flow.flat → AreSteps flow pairs ways
  steps_of bridges ways are is a b = (
    λ has. elim (Contains-append_cases bridges flow.flat (a, b) (subst (λ (xs : List (ℕ × ℕ)). Contains xs (a, b)) is has)) [
      | inl bridge ↦ let over = (are a b).0 bridge in f.bridge over.over.call over.pair.goal over.pair.out over.over.opened over.stands over.over.closed
      | inr flat ↦ f.flat flat
    ],
    λ taken. subst (λ (xs : List (ℕ × ℕ)). Contains xs (a, b)) (sym is) (back a b taken),
  )
    where
      back : (x y : ℕ) → FoldedStep flow (Contains pairs) x y → Contains (bridges ++ flow.flat) (x, y)
      back x y (f.flat edge) = Contains-append_right bridges flow.flat (x, y) edge
      back x y (f.bridge call goal out opened so closed) =
          Contains-append_left bridges flow.flat (x, y) ((are x y).1 (record { pair = record { goal = goal; out = out }; stands = so; over = record { call = call; opened = opened; closed = closed } }))

  -- the ends of folded steps are vertices
  step_among : (a b : ℕ) → FoldedStep flow (Contains pairs) a b → (a < flow.vertices) × (b < flow.vertices)
  step_among a b (f.flat edge) = All-contains (λ (e : ℕ × ℕ). (e.0 < flow.vertices) × (e.1 < flow.vertices)) flow.flat (a, b) flow.within.flat edge
  step_among a b (f.bridge call goal out opened so closed) =
      ((All-contains (IsAmong flow.vertices) flow.opens _ flow.within.opens opened).from, (All-contains (IsAmong flow.vertices) flow.closes _ flow.within.closes closed).to)

  pub steps_among : (ways : List (ℕ × ℕ)) → AreSteps flow pairs ways → AreAmong flow.vertices ways
  steps_among ways are k d inside = let way = get_or ways k d in step_among way.0 way.1 ((are way.0 way.1).0 (Contains-get_or ways k d inside))
