use Rattle.std.proofs.Common.{arith}
use Rattle.path_facts.proofs.Beginning.{begin_none, begin_more, begin_end}
use Rattle.path_facts.proofs.saturating.begun.Goals as goal

pub loop-goal-init : goal.loop-goal-init
loop-goal-init c = begin_none c.args.count c.args.goals.now c.in_ok-facts.facts c.in_ok-facts.ensures.kept c.in_ok-facts.ensures.count c.in_ok-facts.ensures.empty

pub meet-requires-clause-kept : goal.meet-requires-clause-kept
meet-requires-clause-kept c = c.loop-goal.invariant.kept

pub meet-requires-clause-below : goal.meet-requires-clause-below
meet-requires-clause-below c =
    let below = c.requires c.loop-goal.goal-index 0 c.loop-goal-test.true in
    let count = c.loop-goal.invariant.count_is in
    omega arith

pub loop-goal-preserved : goal.loop-goal-preserved
loop-goal-preserved c = begin_more c.args.count c.args.goals.now c.loop-goal.facts c.meet.new.self c.loop-goal.goal-index c.loop-goal-test.true c.loop-goal.invariant c.in_ok-meet.ensures

pub returns : goal.returns
returns c = begin_end c.args.count c.args.goals.now c.loop-goal.facts c.loop-goal.goal-index c.loop-goal-test.false c.loop-goal.invariant
