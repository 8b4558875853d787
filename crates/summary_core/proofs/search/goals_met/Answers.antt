use Rattle.std.proofs.Common.{ℕ}
use Rattle.matched_paths.specs.declared.flow_graph.Crossing.{Crossing}
use Rattle.summary_core.proofs.Gathering.{gather_one, gather_skip, gather_end}
use Rattle.summary_core.proofs.search.goals_met.Goals as goal
use Rattle.summary_core.proofs.search.goals_met.Goals.{then-has+in_ok-push, else-has}

abbrev end_of : Crossing → ℕ
end_of crossing = crossing.to

pub loop-entry-preserved : goal.loop-entry-preserved
loop-entry-preserved c = elim c.if-has.branch [
  | then-has+in_ok-push w ↦ rw (w.goals-is, w.in_ok-push.ensures.items)
      (gather_one end_of c.args.set.now.met c.args.opens.now c.loop-entry.goals.items c.loop-entry.entry-index _ c.loop-entry-test.true (c.has.ensures.0 w.if-has.true) c.loop-entry.invariant)
  | else-has w ↦ rw w.goals-is
      (gather_skip end_of c.args.set.now.met c.args.opens.now c.loop-entry.goals.items c.loop-entry.entry-index _ c.loop-entry-test.true (λ has. let on = c.has.ensures.1 has in let off = w.if-has.false in cc) c.loop-entry.invariant)
]

pub returns-clause-goals : goal.returns-clause-goals
returns-clause-goals c vertex =
    let same = c.put_in_order.ensures.same vertex in
    let ends = gather_end end_of c.args.set.now.met c.args.opens.now c.loop-entry.goals.items c.loop-entry.entry-index c.loop-entry-test.false c.loop-entry.invariant vertex in
    (λ has. ends.0 (same.0 has), λ is. same.1 (ends.1 is))
