-- The sorted true pairs of the wanted goals are the closed table.
use Rattle.std.proofs.Common.{◌≡◌, ℕ, ◌+◌, ◌<◌, List, length, get_or, false, sym, subst, is_lt, nat_cmp}
use Rattle.std.specs.Ordering.{ordering_then}
use Rattle.std.specs.List.{All, Contains}
use Rattle.std.specs.List.Sorted.{IsPermutation}
use Rattle.std.proofs.lemmas.List.Elements.{All-contains, All-contains_itself, All-weaker}
use Rattle.matched_paths.specs.declared.flow_graph.FlowGraph.{FlowGraph}
use Rattle.matched_paths.specs.declared.flow_graph.Pair.{Pair}
use Rattle.matched_paths.specs.Edges.{IsGoal}
use Rattle.matched_paths.specs.Matched.{IsTruePair}
use Rattle.matched_paths.proofs.Closing.{held_wanted}
use Rattle.matched_paths.specs.Folded.{HoldsOutsOf}
use Rattle.summary_core.specs.Board.{AreWanted}
use Rattle.summary_core.specs.Sound.{EachOnce, HoldsWanted}
use Rattle.summary_core.specs.Table.{IsClosed}
use Rattle.summary_core.proofs.Rising.{closed_sorted}

-- wanted goals are goals
pub goals_are : (flow : FlowGraph) (starts goals : List ℕ) → AreWanted flow starts goals → All (IsGoal flow) goals
goals_are flow starts goals are =
    All-weaker (Contains goals) (IsGoal flow) (λ goal has. ((are.each goal).0 has).goal) goals (All-contains_itself goals)

-- the goals were told of a flow graph and starts that were lent
pub wanted_of : (flow lent : FlowGraph) (starts listed goals : List ℕ) → lent ≡ flow → listed ≡ starts → AreWanted lent listed goals → AreWanted flow starts goals
wanted_of flow lent starts listed goals is_flow is_starts are =
    subst (λ (f : FlowGraph). AreWanted f starts goals) is_flow (subst (λ (ss : List ℕ). AreWanted lent ss goals) is_starts are)

finished_of : (flow : FlowGraph) (starts goals : List ℕ) (pairs sorted : List Pair) → All (λ start. start < flow.vertices) starts → AreWanted flow starts goals →
    All (λ pair. Contains goals pair.goal × IsTruePair flow pair) pairs → HoldsOutsOf flow (Contains goals) pairs → EachOnce pairs → IsPermutation pairs sorted →
    ((k : ℕ) (d : Pair) → k + 1 < length sorted →
    is_lt (ordering_then (nat_cmp (get_or sorted (k + 1) d).goal (get_or sorted k d).goal) (nat_cmp (get_or sorted (k + 1) d).out (get_or sorted k d).out)) ≡ false) →
    IsClosed (record { flow = flow; starts = starts; pairs = sorted })
finished_of flow starts goals pairs sorted within are sound holds once moved order =
    let exact : HoldsWanted flow starts pairs = record {
      exact = λ pair. (
        λ has.
            let is = All-contains (λ (p : Pair). Contains goals p.goal × IsTruePair flow p) pairs pair sound has in
            record { matched = is.1; wanted = (are.each pair.goal).0 is.0 },
        held_wanted flow starts pairs (λ goal out wanted led_out. holds goal out ((are.each goal).1 wanted) led_out) pair,
      );
      once = once;
    } in
    closed_sorted flow starts pairs sorted within exact moved order

-- the pairs were told of a flow graph and goals that were lent
pub finished : (flow lent : FlowGraph) (starts goals listed : List ℕ) (pairs sorted : List Pair) → lent ≡ flow → listed ≡ goals → All (λ start. start < flow.vertices) starts → AreWanted flow starts goals →
    All (λ pair. Contains listed pair.goal × IsTruePair lent pair) pairs → HoldsOutsOf lent (Contains listed) pairs → EachOnce pairs → IsPermutation pairs sorted →
    ((k : ℕ) (d : Pair) → k + 1 < length sorted →
    is_lt (ordering_then (nat_cmp (get_or sorted (k + 1) d).goal (get_or sorted k d).goal) (nat_cmp (get_or sorted (k + 1) d).out (get_or sorted k d).out)) ≡ false) →
    IsClosed (record { flow = flow; starts = starts; pairs = sorted })
finished flow lent starts goals listed pairs sorted is_flow is_listed within are sound holds once moved order =
    finished_of flow starts listed pairs sorted within (subst (λ (gs : List ℕ). AreWanted flow starts gs) (sym is_listed) are)
    (subst (λ (f : FlowGraph). All (λ (p : Pair). Contains listed p.goal × IsTruePair f p) pairs) is_flow sound)
    (subst (λ (f : FlowGraph). HoldsOutsOf f (Contains listed) pairs) is_flow holds) once moved order
