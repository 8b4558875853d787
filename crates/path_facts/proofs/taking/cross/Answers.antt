use Rattle.std.proofs.Common.{arith}
use Rattle.path_facts.proofs.Tabulating.{AreOver, are_over, over_below, cross_none, cross_more, cross_end}
use Rattle.path_facts.proofs.taking.cross.Goals as goal

pub loop-way-init : goal.loop-way-init
loop-way-init c = cross_none c.args.flow.now c.args.facts.now c.args.bridges.now c.args.position c.as_slice-way-items.result.now c.requires.tabulates

pub meet-requires-clause-kept : goal.meet-requires-clause-kept
meet-requires-clause-kept c = c.loop-way.invariant.tabulates.bridges_kept

pub meet-requires-clause-below : goal.meet-requires-clause-below
meet-requires-clause-below c =
    let are : AreOver c.args.flow.now c.args.facts.now c.args.position c.as_slice-way-items.result.now = are_over c.args.flow.now c.args.facts.now c.args.position c.index.result.now _ _ _ c.requires.position c.index.ensures c.clear.ensures.items c.as_slice-way-items.ensures.value c.in_ok-add_over.ensures in
    let below = over_below c.args.flow.now c.args.facts.now c.args.position c.as_slice-way-items.result.now c.loop-way.way-index c.loop-way-test.true are in
    let count = c.loop-way.invariant.tabulates.bridges_count in
    omega arith

pub spread-requires-clause-kept : goal.spread-requires-clause-kept
spread-requires-clause-kept c = c.loop-way.invariant.tabulates.facts_kept

pub spread-requires-clause-from : goal.spread-requires-clause-from
spread-requires-clause-from c =
    let are : AreOver c.args.flow.now c.args.facts.now c.args.position c.as_slice-way-items.result.now = are_over c.args.flow.now c.args.facts.now c.args.position c.index.result.now _ _ _ c.requires.position c.index.ensures c.clear.ensures.items c.as_slice-way-items.ensures.value c.in_ok-add_over.ensures in
    let below = over_below c.args.flow.now c.args.facts.now c.args.position c.as_slice-way-items.result.now c.loop-way.way-index c.loop-way-test.true are in
    let count = c.loop-way.invariant.tabulates.facts_count in
    omega arith

pub spread-requires-clause-to : goal.spread-requires-clause-to
spread-requires-clause-to c =
    let are : AreOver c.args.flow.now c.args.facts.now c.args.position c.as_slice-way-items.result.now = are_over c.args.flow.now c.args.facts.now c.args.position c.index.result.now _ _ _ c.requires.position c.index.ensures c.clear.ensures.items c.as_slice-way-items.ensures.value c.in_ok-add_over.ensures in
    let below = over_below c.args.flow.now c.args.facts.now c.args.position c.as_slice-way-items.result.now c.loop-way.way-index c.loop-way-test.true are in
    let count = c.loop-way.invariant.tabulates.facts_count in
    omega arith

pub loop-way-preserved : goal.loop-way-preserved
loop-way-preserved c =
    let are : AreOver c.args.flow.now c.args.facts.now c.args.position c.as_slice-way-items.result.now = are_over c.args.flow.now c.args.facts.now c.args.position c.index.result.now _ _ _ c.requires.position c.index.ensures c.clear.ensures.items c.as_slice-way-items.ensures.value c.in_ok-add_over.ensures in
    cross_more c.args.flow.now c.args.facts.now c.loop-way.facts c.spread.new.facts c.loop-way.bridges c.meet.new.self c.args.position c.as_slice-way-items.result.now c.loop-way.way-index (0, 0) c.requires.position c.loop-way-test.true are.over
    c.in_ok-meet.ensures c.in_ok-spread.ensures c.loop-way.invariant

pub returns-clause-tabulates : goal.returns-clause-tabulates
returns-clause-tabulates c =
    let are : AreOver c.args.flow.now c.args.facts.now c.args.position c.as_slice-way-items.result.now = are_over c.args.flow.now c.args.facts.now c.args.position c.index.result.now _ _ _ c.requires.position c.index.ensures c.clear.ensures.items c.as_slice-way-items.ensures.value c.in_ok-add_over.ensures in
    cross_end c.args.flow.now c.args.facts.now c.loop-way.facts c.loop-way.bridges c.args.position c.as_slice-way-items.result.now c.loop-way.way-index c.requires.position c.loop-way-test.false are.all c.loop-way.invariant

pub returns-clause-grows : goal.returns-clause-grows
returns-clause-grows c = c.loop-way.invariant.grows
