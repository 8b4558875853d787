use Rattle.std.proofs.Common.{arith}
use Rattle.std.proofs.lemmas.Grind.{common_steps}
use Rattle.path_facts.proofs.Following.{spread_begin, spread_step, spread_end, spread_within}
use Rattle.path_facts.proofs.taking.spread.Goals as goal

pub loop-next-init : goal.loop-next-init
loop-next-init c = spread_begin c.args.from c.args.to c.args.facts.now c.last-next.result c.requires.kept c.last-next.ensures

pub index-requires : goal.index-requires
index-requires c =
    let within = (spread_within c.args.from c.args.to c.args.facts.now c.loop-next.facts c.loop-next.next c.in-Some.position c.in-Some.is c.loop-next.invariant).0 in
    grind (arith, common_steps, within)

pub meet-requires-clause-kept : goal.meet-requires-clause-kept
meet-requires-clause-kept c = c.loop-next.invariant.grows.kept

pub meet-requires-clause-below : goal.meet-requires-clause-below
meet-requires-clause-below c =
    let count = c.loop-next.invariant.grows.count in
    let below = c.requires.to in
    omega arith

pub loop-next-preserved : goal.loop-next-preserved
loop-next-preserved c =
    spread_step c.args.from c.args.to c.args.facts.now c.loop-next.facts c.meet.new.self c.in-Some.position c.index.result.now c.loop-next.next c.before-next.result c.in-Some.is c.loop-next.invariant c.index.ensures c.in_ok-meet.ensures c.before-next.ensures

pub returns : goal.returns
returns c = spread_end c.args.from c.args.to c.args.facts.now c.loop-next.facts c.loop-next.next c.in_default.is c.loop-next.invariant
