use Rattle.std.proofs.Common.{ℕ}
use Rattle.matched_paths.specs.declared.flow_graph.Crossing.{Crossing}
use Rattle.summary_core.proofs.Gathering.{gather_one, gather_skip, gather_end}
use Rattle.summary_core.proofs.search.outs_among.Goals as goal
use Rattle.summary_core.proofs.search.outs_among.Goals.{then-has+in_ok-push, else-has}

abbrev end_of : Crossing → ℕ
end_of crossing = crossing.from

pub loop-close-preserved : goal.loop-close-preserved
loop-close-preserved c = elim c.if-has.branch [
  | then-has+in_ok-push w ↦ rw (w.outs-is, w.in_ok-push.ensures.items)
      (gather_one end_of c.args.set.now.met c.args.closes.now c.loop-close.outs.items c.loop-close.close-index _ c.loop-close-test.true (c.has.ensures.0 w.if-has.true) c.loop-close.invariant)
  | else-has w ↦ rw w.outs-is
      (gather_skip end_of c.args.set.now.met c.args.closes.now c.loop-close.outs.items c.loop-close.close-index _ c.loop-close-test.true (λ has. let on = c.has.ensures.1 has in let off = w.if-has.false in cc) c.loop-close.invariant)
]

pub returns-clause-outs : goal.returns-clause-outs
returns-clause-outs c vertex =
    let same = c.put_in_order.ensures.same vertex in
    let ends = gather_end end_of c.args.set.now.met c.args.closes.now c.loop-close.outs.items c.loop-close.close-index c.loop-close-test.false c.loop-close.invariant vertex in
    (λ has. ends.0 (same.0 has), λ is. same.1 (ends.1 is))
