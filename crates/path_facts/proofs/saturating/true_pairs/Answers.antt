use Rattle.std.proofs.Common.{◌≡◌, length, arith}
use Rattle.path_facts.proofs.Beginning.{goals_below, pairs_hold, pairs_sound, saturate_none, saturate_more}
use Rattle.path_facts.proofs.saturating.true_pairs.Goals as goal

pub begun-requires : goal.begun-requires
begun-requires c = goals_below c.args.flow.now c.args.goals.now c.requires

pub loop-next-init : goal.loop-next-init
loop-next-init c = saturate_none c.args.flow.now c.args.goals.now c.in_ok-facts.facts c.in_ok-bridges.bridges c.in_ok-facts.ensures c.in_ok-bridges.ensures.kept c.in_ok-bridges.ensures.count c.in_ok-bridges.ensures.empty

pub summaries-requires-clause-index : goal.summaries-requires-clause-index
summaries-requires-clause-index c = c.in_ok-ground.ensures.crossings

pub summaries-requires-clause-once : goal.summaries-requires-clause-once
summaries-requires-clause-once c = rw c.as_slice.ensures.value c.loop-next.invariant.tabulates.facts_kept.once

pub returns-then-next-len-clause-sound : goal.returns-then-next-len-clause-sound
returns-then-next-len-clause-sound c = pairs_sound c.args.flow.now c.args.goals.now c.loop-next.facts c.loop-next.bridges c.loop-next.next c.loop-next.invariant c.as_slice.result.now c.as_slice.ensures.value c.in_ok-pairs.pairs.items c.in_ok-pairs.ensures.each c.requires

pub returns-then-next-len-clause-holds : goal.returns-then-next-len-clause-holds
returns-then-next-len-clause-holds c =
    let len = c.loop-next.facts.pairs.ok in
    let all : c.loop-next.next ≡ length c.loop-next.facts.pairs.items = omega (arith, c.if-next-len.true, c.len.ensures, len) in
    pairs_hold c.args.flow.now c.args.goals.now c.loop-next.facts c.loop-next.bridges c.loop-next.next c.loop-next.invariant c.as_slice.result.now c.as_slice.ensures.value c.in_ok-pairs.pairs.items c.in_ok-pairs.ensures.each all

pub take_up-requires-clause-position : goal.take_up-requires-clause-position
take_up-requires-clause-position c =
    let len = c.loop-next.facts.pairs.ok in
    let within = c.loop-next.invariant.tabulates.within in
    omega (arith, c.if-next-len.false, c.len.ensures, len)

pub take_up-requires-clause-tabulates : goal.take_up-requires-clause-tabulates
take_up-requires-clause-tabulates c = c.loop-next.invariant.tabulates

pub loop-next-preserved : goal.loop-next-preserved
loop-next-preserved c =
    saturate_more c.args.flow.now c.args.goals.now c.loop-next.facts c.take_up.new.facts c.loop-next.bridges c.take_up.new.bridges c.loop-next.next c.loop-next.invariant c.in_ok-take_up.ensures.tabulates c.in_ok-take_up.ensures.grows
