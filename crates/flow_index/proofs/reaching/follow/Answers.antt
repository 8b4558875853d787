use Rattle.std.proofs.Common.{length, slice_index, subst, List, ℕ}
use Rattle.flow_index.specs.Positions.{IsLastPosition}
use Rattle.flow_index.proofs.Following.{follow_begin, follow_step}
use Rattle.flow_index.proofs.reaching.follow.Goals as goal

pub loop-next-init : goal.loop-next-init
loop-next-init c =
    follow_begin c.args.ways.now c.args.from c.args.set.now c.last-next.result
    (subst (λ (keys : List ℕ). IsLastPosition keys c.args.from (length keys) c.last-next.result) c.requires.keys c.last-next.ensures)

pub loop-next-preserved : goal.loop-next-preserved
loop-next-preserved c =
    follow_step c.args.ways.now c.args.from c.args.set.now c.loop-next.set _ c.in-Some.position _ c.loop-next.next c.before-next.result c.in-Some.is c.loop-next.invariant c.in_ok-meet.ensures.ok
    (subst (λ (keys : List ℕ). IsLastPosition keys (slice_index keys c.in-Some.position) c.in-Some.position c.before-next.result) c.requires.keys c.before-next.ensures)
