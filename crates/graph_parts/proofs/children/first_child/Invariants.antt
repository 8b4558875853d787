use Rattle.graph_store.specs.Stored.{plain}
use Rattle.graph_parts.specs.Parts.{IsChildWith}
use Rattle.graph_parts.proofs.Found.{NoneLeads}
use Rattle.graph_parts.proofs.children.first_child.Given as goal

abbrev pub invariant-loop-edge : goal.invariant-loop-edge
invariant-loop-edge g l = NoneLeads (IsChildWith (plain l.graph) (g.T.NodeTest.Has l.test) l.node) l.children l.edge-index
