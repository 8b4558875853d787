-- Flows are found in two turns over the table's pairs.
use Rattle.std.proofs.Common.{◌≡◌, ℕ, ◌<◌, ◌⊎◌, inl, inr, List, ◌++◌, get_or, sym, subst}
use Rattle.std.specs.List.{All, Contains}
use Rattle.std.proofs.lemmas.List.Elements.{All-contains, Contains-append_left, Contains-append_right, Contains-append_cases, Contains-get_or}
use Rattle.matched_paths.specs.declared.flow_graph.Crossing.{Crossing}
use Rattle.matched_paths.specs.declared.flow_graph.FlowGraph.{FlowGraph}
use Rattle.matched_paths.specs.declared.flow_graph.Pair.{Pair}
use Rattle.matched_paths.specs.Ends.{IsAmong}
use Rattle.matched_paths.specs.Edges.{Crosses}
use Rattle.matched_paths.specs.Path.{EachStep, Path, none, step}
use Rattle.matched_paths.specs.Matched.{IsTruePair}
use Rattle.matched_paths.specs.Folded as f
use Rattle.matched_paths.specs.Folded.{Folded, FoldedStep}
use Rattle.matched_paths.specs.Wanted.{IsWantedPair, NeedsWanted, NeedsWantedOr}
use Rattle.matched_paths.proofs.PathLemmas.{path_map}
use Rattle.matched_paths.proofs.Folding.{flow_folded, flow_unfolded}
use Rattle.matched_paths.proofs.Needing.{needs_wanted}
use Rattle.flow_index.specs.Ways.{AreAmong, AreSteps, HasWay, IsReached}
use Rattle.summary_core.specs.Table.{IsClosed, Table}
use Rattle.flow_search.specs.Flowing.{FlowsFrom}

-- The ways are steps and crossings.
abbrev pub AreBoth : List (ℕ × ℕ) → List (ℕ × ℕ) → List Crossing → Type 0
AreBoth ways steps crossings = (a b : ℕ) → (Contains ways (a, b) → Contains steps (a, b) ⊎ Crosses crossings a b) × (Contains steps (a, b) ⊎ Crosses crossings a b → Contains ways (a, b))

pub both_are : (steps ends ways : List (ℕ × ℕ)) (crossings : List Crossing) → ((a b : ℕ) → (Contains ends (a, b) → Crosses crossings a b) × (Crosses crossings a b → Contains ends (a, b))) →
    ways ≡ ends ++ steps → AreBoth ways steps crossings
both_are steps ends ways crossings are is a b = (
  λ has. elim (Contains-append_cases ends steps (a, b) (subst (λ (xs : List (ℕ × ℕ)). Contains xs (a, b)) is has)) [
    | inl end ↦ inr ((are a b).0 end)
    | inr taken ↦ inl taken
  ],
  λ one. subst (λ (xs : List (ℕ × ℕ)). Contains xs (a, b)) (sym is) (elim one [
    | inl taken ↦ Contains-append_right ends steps (a, b) taken
    | inr crosses ↦ Contains-append_left ends steps (a, b) ((are a b).1 crosses)
  ]),
)

pub both_among : (vertices : ℕ) (ways steps : List (ℕ × ℕ)) (crossings : List Crossing) → AreBoth ways steps crossings → AreAmong vertices steps → All (IsAmong vertices) crossings → AreAmong vertices ways
both_among vertices ways steps crossings are steps_within within k d inside =
    let way = get_or ways k d in
    elim ((are way.0 way.1).0 (Contains-get_or ways k d inside)) [
      | inl taken ↦ All-contains (λ (w : ℕ × ℕ). (w.0 < vertices) × (w.1 < vertices)) steps (way.0, way.1) steps_within taken
      | inr crosses ↦ let is = All-contains (IsAmong vertices) crossings _ within crosses.1 in (is.from, is.to)
    ]

module _ (flow : FlowGraph) (starts : List ℕ) (pairs : List Pair) (exact : (pair : Pair) → (Contains pairs pair → IsWantedPair flow starts pair) × (IsWantedPair flow starts pair → Contains pairs pair)) where
  -- bridges over the table's pairs are over true ones
  widen : (a b : ℕ) → FoldedStep flow (Contains pairs) a b → FoldedStep flow (IsTruePair flow) a b
  widen a b (f.flat edge) = f.flat edge
  widen a b (f.bridge call goal out opened so closed) = f.bridge call goal out opened ((exact _).0 so).matched closed

  -- bridges over true pairs of wanted goals are over the table's
  narrow : (a b : ℕ) (taken : FoldedStep flow (IsTruePair flow) a b) → NeedsWanted flow starts taken → FoldedStep flow (Contains pairs) a b
  narrow a b (f.flat edge) needs = f.flat edge
  narrow a b (f.bridge call goal out opened so closed) needs = f.bridge call goal out opened ((exact _).1 (record { matched = so; wanted = needs })) closed

  module _ (steps : List (ℕ × ℕ)) (are : AreSteps flow pairs steps) (crossings : List Crossing) (ways : List (ℕ × ℕ)) (both : AreBoth ways steps crossings) where
    way_step : (a b : ℕ) → HasWay ways a b → FoldedStep flow (IsTruePair flow) a b ⊎ Crosses crossings a b
    way_step a b way = elim ((both a b).0 way) [
      | inl taken ↦ inl (widen a b ((are a b).0 taken))
      | inr crosses ↦ inr crosses
    ]

    step_way : (a b : ℕ) (taken : FoldedStep flow (IsTruePair flow) a b ⊎ Crosses crossings a b) → NeedsWantedOr flow starts taken → HasWay ways a b
    step_way a b (inl taken) needs = (both a b).1 (inl ((are a b).1 (narrow a b taken needs)))
    step_way a b (inr crosses) needs = (both a b).1 (inr crosses)

    pub ways_steps : {a b : ℕ} → Path (HasWay ways) a b → Path (λ x y. FoldedStep flow (IsTruePair flow) x y ⊎ Crosses crossings x y) a b
    ways_steps path = path_map way_step path

    pub steps_ways : {a b : ℕ} (path : Path (λ x y. FoldedStep flow (IsTruePair flow) x y ⊎ Crosses crossings x y) a b) → EachStep (λ x y taken. NeedsWantedOr flow starts taken) path → Path (HasWay ways) a b
    steps_ways none needs = none
    steps_ways (step first rest) needs = step (step_way _ _ first needs.0) (steps_ways rest needs.1)

-- what is reached in two turns is what data flows to
pub turns_flow : (table : Table) (starts : List ℕ) (steps out into : List (ℕ × ℕ)) (turns : List ℕ) → IsClosed table → All (Contains table.starts) starts → AreSteps table.flow table.pairs steps →
    AreBoth out steps table.flow.closes → AreBoth into steps table.flow.opens →
    ((vertex : ℕ) → (Contains turns vertex → IsReached out starts vertex) × (IsReached out starts vertex → Contains turns vertex)) → (vertex : ℕ) →
    (IsReached into turns vertex → FlowsFrom table.flow starts vertex) × (FlowsFrom table.flow starts vertex → IsReached into turns vertex)
turns_flow table starts steps out into turns closed among are both_out both_into turned vertex =
    let flow = table.flow in (
      λ reached.
          let first = (turned reached.start).0 reached.among in
          record {
            start = first.start;
            among = first.among;
            leads = flow_unfolded flow (record {
              turn = reached.start;
              out = ways_steps flow table.starts table.pairs closed.exact steps are flow.closes out both_out first.leads;
              into = ways_steps flow table.starts table.pairs closed.exact steps are flow.opens into both_into reached.leads;
            });
          },
      λ from.
          let path = flow_folded flow from.leads in
          let needs = needs_wanted flow table.starts (All-contains (Contains table.starts) starts from.start among from.among) path in
          record {
            start = path.turn;
            among = (turned path.turn).1 (record { start = from.start; among = from.among; leads = steps_ways flow table.starts table.pairs closed.exact steps are flow.closes out both_out path.out needs.out });
            leads = steps_ways flow table.starts table.pairs closed.exact steps are flow.opens into both_into path.into needs.into;
          },
    )
