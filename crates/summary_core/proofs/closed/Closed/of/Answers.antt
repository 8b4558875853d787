use Rattle.std.proofs.Common.{List, ℕ, sym, subst, arith}
use Rattle.std.specs.List.{All}
use Rattle.matched_paths.specs.declared.flow_graph.FlowGraph.{FlowGraph}
use Rattle.matched_paths.specs.Edges.{IsGoal}
use Rattle.summary_core.proofs.Finishing.{goals_are, finished, wanted_of}
use Rattle.summary_core.proofs.closed.Closed.of.Goals as goal

pub true_pairs-requires : goal.true_pairs-requires
true_pairs-requires c =
    let flow = c.args.flow.value in
    let are = wanted_of flow c.deref.result.now c.args.starts c.items.result.now c.in_ok-goals.goals.items c.deref.ensures c.items.ensures c.in_ok-goals.ensures in
    subst (λ (f : FlowGraph). All (IsGoal f) c.deref-3.result.now) (sym c.deref-2.ensures)
    (subst (λ (gs : List ℕ). All (IsGoal flow) gs) (sym c.deref-3.ensures.value) (goals_are flow c.args.starts c.in_ok-goals.goals.items are))

pub invariant_of-result : goal.invariant_of-result
invariant_of-result c =
    let flow = c.args.flow.value in
    let are = wanted_of flow c.deref.result.now c.args.starts c.items.result.now c.in_ok-goals.goals.items c.deref.ensures c.items.ensures c.in_ok-goals.ensures in
    rw c.of.ensures (finished flow c.deref-2.result.now c.args.starts c.in_ok-goals.goals.items c.deref-3.result.now c.in_ok-pairs.pairs.items c.sort_unstable.new.self.items
    c.deref-2.ensures c.deref-3.ensures.value c.requires are c.in_ok-pairs.ensures.sound c.in_ok-pairs.ensures.holds c.in_ok-pairs.ensures.once c.sort_unstable.ensures.permutation (λ k d inside. c.sort_unstable.ensures.sorted k d (omega arith) inside))

pub returns-clause-closed : goal.returns-clause-closed
returns-clause-closed c =
    let flow = c.args.flow.value in
    let are = wanted_of flow c.deref.result.now c.args.starts c.items.result.now c.in_ok-goals.goals.items c.deref.ensures c.items.ensures c.in_ok-goals.ensures in
    rw c.of.ensures (finished flow c.deref-2.result.now c.args.starts c.in_ok-goals.goals.items c.deref-3.result.now c.in_ok-pairs.pairs.items c.sort_unstable.new.self.items
    c.deref-2.ensures c.deref-3.ensures.value c.requires are c.in_ok-pairs.ensures.sound c.in_ok-pairs.ensures.holds c.in_ok-pairs.ensures.once c.sort_unstable.ensures.permutation (λ k d inside. c.sort_unstable.ensures.sorted k d (omega arith) inside))
