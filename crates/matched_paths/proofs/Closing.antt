-- Lists of true pairs that hold all outs which they lead to.
use Rattle.std.proofs.Common.{ℕ, List}
use Rattle.std.specs.List.{Contains}
use Rattle.matched_paths.specs.declared.flow_graph.FlowGraph.{FlowGraph}
use Rattle.matched_paths.specs.declared.flow_graph.Pair.{Pair}
use Rattle.matched_paths.specs.Edges.{IsGoal}
use Rattle.matched_paths.specs.Path.{Path, none, step}
use Rattle.matched_paths.specs.Matched as m
use Rattle.matched_paths.specs.Matched.{Matched, IsTruePair}
use Rattle.matched_paths.specs.Folded as f
use Rattle.matched_paths.specs.Folded.{FoldedStep, HoldsOutsOf, Leads}
use Rattle.matched_paths.specs.Wanted as w
use Rattle.matched_paths.specs.Wanted.{HasEdge, IsMet, IsWanted, IsWantedPair}
use Rattle.matched_paths.proofs.PathLemmas.{path_join, path_end}

module _ (flow : FlowGraph) where
  -- a matched path has edges
  pub matched_edges : {a b : ℕ} → Matched flow a b → Path (HasEdge flow) a b
  matched_edges m.none = none
  matched_edges (m.flat edge) = step (w.flat edge) none
  matched_edges (m.then front back) = path_join (matched_edges front) (matched_edges back)
  matched_edges (m.call opened matched closed) =
      step (w.opens (_, opened)) (path_end (matched_edges matched) (w.closes (_, closed)))

  -- what is matched is led to by pairs that hold all their outs
  pub matched_held : (pairs : List Pair) → HoldsOutsOf flow (IsGoal flow) pairs → {a b : ℕ} → Matched flow a b → Leads flow (Contains pairs) a b
  matched_held pairs holds m.none = none
  matched_held pairs holds (m.flat edge) = step (f.flat edge) none
  matched_held pairs holds (m.then front back) = path_join (matched_held pairs holds front) (matched_held pairs holds back)
  matched_held pairs holds (m.call {call} {a} {goal} {out} {b} opened matched closed) =
      step (f.bridge call goal out opened (holds goal out (_, (_, opened)) (record { is_out = (_, (_, closed)); leads = matched_held pairs holds matched })) closed) none

  pub held_true : (pairs : List Pair) → HoldsOutsOf flow (IsGoal flow) pairs → (pair : Pair) → IsTruePair flow pair → Contains pairs pair
  held_true pairs holds pair true = holds pair.goal pair.out true.goal (record { is_out = true.out; leads = matched_held pairs holds true.matched })

  module _ (starts : List ℕ) where
    pub met_on : {a b : ℕ} → IsMet flow starts a → Path (HasEdge flow) a b → IsMet flow starts b
    met_on met edges = record { start = met.start; among = met.among; leads = path_join met.leads edges }

    -- the goal of an open that leaves a vertex that is met
    pub wanted_goal : {call a goal : ℕ} → IsMet flow starts a → Rattle.matched_paths.specs.Edges.HasOpen flow call a goal → IsWanted flow starts goal
    wanted_goal met opened = record { goal = (_, (_, opened)); met = met_on met (step (w.opens (_, opened)) none) }

    pub wanted_held : (pairs : List Pair) → HoldsOutsOf flow (IsWanted flow starts) pairs → {a b : ℕ} → IsMet flow starts a → Matched flow a b → Leads flow (Contains pairs) a b
    wanted_held pairs holds met m.none = none
    wanted_held pairs holds met (m.flat edge) = step (f.flat edge) none
    wanted_held pairs holds met (m.then front back) =
        path_join (wanted_held pairs holds met front) (wanted_held pairs holds (met_on met (matched_edges front)) back)
    wanted_held pairs holds met (m.call {call} {a} {goal} {out} {b} opened matched closed) =
        let wanted = wanted_goal met opened in
        step (f.bridge call goal out opened (holds goal out wanted (record { is_out = (_, (_, closed)); leads = wanted_held pairs holds wanted.met matched })) closed) none

    pub held_wanted : (pairs : List Pair) → HoldsOutsOf flow (IsWanted flow starts) pairs → (pair : Pair) → IsWantedPair flow starts pair → Contains pairs pair
    held_wanted pairs holds pair true =
        holds pair.goal pair.out true.wanted (record { is_out = true.matched.out; leads = wanted_held pairs holds true.wanted.met true.matched.matched })
