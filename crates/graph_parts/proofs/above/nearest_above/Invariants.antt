use Rattle.graph_store.specs.Stored.{plain}
use Rattle.graph_parts.proofs.Depth.{depth}
use Rattle.graph_parts.proofs.Climbs.{Climbing}
use Rattle.graph_parts.proofs.above.nearest_above.Given as goal

abbrev pub invariant-loop-above : goal.invariant-loop-above
invariant-loop-above l = Climbing (plain l.graph) l.label l.node l.below

abbrev pub decreases-loop-above : goal.decreases-loop-above
decreases-loop-above l = depth (plain l.graph) l.below
