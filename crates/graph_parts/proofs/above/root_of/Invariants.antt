use Rattle.graph_store.specs.Stored.{plain}
use Rattle.graph_parts.proofs.Depth.{depth}
use Rattle.graph_parts.proofs.Climbs.{Reaching}
use Rattle.graph_parts.proofs.above.root_of.Given as goal

abbrev pub invariant-loop-above : goal.invariant-loop-above
invariant-loop-above l = Reaching (plain l.graph) l.node l.root

abbrev pub decreases-loop-above : goal.decreases-loop-above
decreases-loop-above l = depth (plain l.graph) l.root
