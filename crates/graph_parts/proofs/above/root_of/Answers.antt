use Rattle.std.proofs.Common.{arith}
use Rattle.graph_store.specs.Stored.{plain}
use Rattle.graph_parts.proofs.Climbs.{reaching_next}
use Rattle.graph_parts.proofs.Depth.{depth_falls}
use Rattle.graph_parts.proofs.above.root_of.Goals as goal

pub loop-above-smaller : goal.loop-above-smaller
loop-above-smaller c =
    let falls = depth_falls (plain c.args.graph.now) c.requires.shaped c.law_stored.ensures.is_graph c.in-Some.above c.loop-above.root c.in-Some.ensures.parent in
    omega arith

pub loop-above-preserved : goal.loop-above-preserved
loop-above-preserved c =
    reaching_next (plain c.args.graph.now) c.args.node c.loop-above.root c.in-Some.above c.loop-above.invariant c.in-Some.ensures.parent c.in-Some.ensures.within
