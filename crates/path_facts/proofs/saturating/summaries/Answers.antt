use Rattle.matched_paths.specs.Edges.{IsOut}
use Rattle.path_facts.proofs.Summing.{sum_one, sum_skip, sum_end}
use Rattle.path_facts.proofs.saturating.summaries.Goals as goal
use Rattle.path_facts.proofs.saturating.summaries.Goals.{then-is_out+in_ok-push, else-is_out}

pub loop-fact-preserved : goal.loop-fact-preserved
loop-fact-preserved c = elim c.if-is_out.branch [
  | then-is_out+in_ok-push w ↦ rw (w.pairs-is, w.in_ok-push.ensures.items)
      (sum_one (IsOut c.args.flow.now) c.args.facts.now c.loop-fact.pairs.items c.loop-fact.fact-index _ c.requires.once c.loop-fact-test.true (c.is_out.ensures.0 w.if-is_out.true) c.loop-fact.invariant)
  | else-is_out w ↦ rw w.pairs-is
      (sum_skip (IsOut c.args.flow.now) c.args.facts.now c.loop-fact.pairs.items c.loop-fact.fact-index _ c.loop-fact-test.true (λ has. let on = c.is_out.ensures.1 has in let off = w.if-is_out.false in cc) c.loop-fact.invariant)
]

pub returns-clause-each : goal.returns-clause-each
returns-clause-each c pair = sum_end (IsOut c.args.flow.now) c.args.facts.now c.loop-fact.pairs.items c.loop-fact.fact-index c.loop-fact-test.false c.loop-fact.invariant pair

pub returns-clause-once : goal.returns-clause-once
returns-clause-once c = c.loop-fact.invariant.once
