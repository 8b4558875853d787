use Rattle.std.proofs.Common.{arith}
use Rattle.graph_store.specs.Stored.{plain}
use Rattle.graph_parts.proofs.Climbs.{climbing_ends, climbing_finds, climbing_next}
use Rattle.graph_parts.proofs.Depth.{depth_falls}
use Rattle.graph_parts.proofs.above.nearest_above.Goals as goal

pub returns-then-has_label-clause-above : goal.returns-then-has_label-clause-above
returns-then-has_label-clause-above c =
    climbing_finds (plain c.args.graph.now) c.requires.shaped c.args.label c.args.node c.loop-above.below c.in-Some.above c.loop-above.invariant c.in-Some.ensures.parent
    (c.has_label.ensures.0 c.if-has_label.true)

pub loop-above-smaller : goal.loop-above-smaller
loop-above-smaller c =
    let falls = depth_falls (plain c.args.graph.now) c.requires.shaped c.law_stored.ensures.is_graph c.in-Some.above c.loop-above.below c.in-Some.ensures.parent in
    omega arith

pub loop-above-preserved : goal.loop-above-preserved
loop-above-preserved c =
    climbing_next (plain c.args.graph.now) c.requires.shaped c.args.label c.args.node c.loop-above.below c.in-Some.above c.loop-above.invariant c.in-Some.ensures.parent
    (λ has. let is = c.has_label.ensures.1 has in cc) c.in-Some.ensures.within

pub returns-clause-above : goal.returns-clause-above
returns-clause-above c =
    climbing_ends (plain c.args.graph.now) c.args.label c.args.node c.loop-above.below c.loop-above.invariant c.in_default.ensures.parent
