use Rattle.graph_store.specs.Stored.{plain}
use Rattle.graph_parts.specs.Parts.{IsArgumentWith}
use Rattle.graph_parts.proofs.Found.{NoneLeads}
use Rattle.graph_parts.proofs.arguments.argument.Given as goal

abbrev pub invariant-loop-edge : goal.invariant-loop-edge
invariant-loop-edge l = NoneLeads (IsArgumentWith (plain l.graph) l.i l.call) l.arguments l.edge-index
