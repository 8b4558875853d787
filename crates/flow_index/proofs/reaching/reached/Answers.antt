use Rattle.std.proofs.Common.{◌≡◌, ◌<◌, ℕ, List, length, get_or, subst, ap, ◌∙◌, arith}
use Rattle.std.specs.List.{Contains}
use Rattle.flow_index.specs.Vertices.{Grows, FollowsAll}
use Rattle.flow_index.proofs.Searching.{start_more, reach_none, reach_more, reach_end}
use Rattle.flow_index.proofs.reaching.reached.Goals as goal

pub loop-start-preserved : goal.loop-start-preserved
loop-start-preserved c =
    start_more c.args.count c.args.ways.now c.args.starts.now c.loop-start.set c.meet.new.self c.loop-start.start-index (omega arith) c.loop-start.invariant c.in_ok-meet.ensures.ok

pub loop-next-init : goal.loop-next-init
loop-next-init c =
    reach_none c.args.count c.args.ways.now c.args.starts.now c.loop-start.set c.loop-start.start-index c.loop-start-test.false c.loop-start.invariant

pub returns-then-next-met-clause-reached : goal.returns-then-next-met-clause-reached
returns-then-next-met-clause-reached c =
    let all : c.loop-next.next ≡ length c.loop-next.set.met = c.if-next-met.true ∙ ap length c.met.ensures.met in
    reach_end c.args.count c.args.ways.now c.args.starts.now c.loop-next.set c.loop-next.next all c.loop-next.invariant

pub follow-requires-clause-from : goal.follow-requires-clause-from
follow-requires-clause-from c =
    let inside : c.loop-next.next < length c.met-in-loop-next.result.now = omega (arith, c.loop-next.invariant.within, ap length c.met.ensures.met, ap length c.met-in-loop-next.ensures.met) in
    let below = c.met-in-loop-next.ensures.within c.loop-next.next 0 inside in
    let count = c.loop-next.invariant.count_is in
    let chains = c.in_ok-chains.ensures.count in
    omega arith

pub loop-next-preserved : goal.loop-next-preserved
loop-next-preserved c =
    let inside : c.loop-next.next < length c.loop-next.set.met = omega (arith, c.loop-next.invariant.within, ap length c.met.ensures.met) in
    let same : get_or c.met-in-loop-next.result.now c.loop-next.next 0 ≡ get_or c.loop-next.set.met c.loop-next.next 0 = ap (λ (xs : List ℕ). get_or xs c.loop-next.next 0) c.met-in-loop-next.ensures.met in
    reach_more c.args.count c.args.ways.now c.args.starts.now c.loop-next.set c.follow.new.set c.loop-next.next inside c.loop-next.invariant
    (subst (λ (v : ℕ). Grows (λ to. Contains c.args.ways.now (v, to)) c.loop-next.set c.follow.new.set) same c.in_ok-follow.ensures.grows)
    (subst (λ (v : ℕ). FollowsAll c.args.ways.now v c.follow.new.set) same c.in_ok-follow.ensures.all)
