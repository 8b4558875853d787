use Rattle.std.proofs.Common.{length, slice_index, subst, List, ℕ, arith}
use Rattle.flow_index.specs.Positions.{IsLastPosition}
use Rattle.path_facts.proofs.Following.{follow_begin, follow_within, follow_step, follow_end}
use Rattle.path_facts.proofs.taking.follow.Goals as goal

pub loop-next-init : goal.loop-next-init
loop-next-init c =
    follow_begin c.args.ways.now c.args.vertex c.args.goal c.args.facts.now c.last-next.result c.requires.kept
    (subst (λ (keys : List ℕ). IsLastPosition keys c.args.vertex (length keys) c.last-next.result) c.requires.keys c.last-next.ensures)

pub meet-requires-clause-kept : goal.meet-requires-clause-kept
meet-requires-clause-kept c = c.loop-next.invariant.grows.kept

pub meet-requires-clause-below : goal.meet-requires-clause-below
meet-requires-clause-below c =
    let within = follow_within c.args.ways.now c.args.vertex c.args.goal c.args.facts.now c.loop-next.facts c.loop-next.next c.in-Some.position c.in-Some.is c.loop-next.invariant in
    let both = c.requires.ways c.in-Some.position (0, 0) within in
    let count = c.loop-next.invariant.grows.count in
    omega arith

pub loop-next-preserved : goal.loop-next-preserved
loop-next-preserved c =
    follow_step c.args.ways.now c.args.vertex c.args.goal c.args.facts.now c.loop-next.facts _ c.in-Some.position _ c.loop-next.next c.before-next.result c.in-Some.is c.loop-next.invariant c.in_ok-meet.ensures
    (subst (λ (keys : List ℕ). IsLastPosition keys (slice_index keys c.in-Some.position) c.in-Some.position c.before-next.result) c.requires.keys c.before-next.ensures)

pub returns-clause-grows : goal.returns-clause-grows
returns-clause-grows c = c.loop-next.invariant.grows

pub returns-clause-all : goal.returns-clause-all
returns-clause-all c = follow_end c.args.ways.now c.args.vertex c.args.goal c.args.facts.now c.loop-next.facts c.loop-next.next c.in_default.is c.loop-next.invariant
