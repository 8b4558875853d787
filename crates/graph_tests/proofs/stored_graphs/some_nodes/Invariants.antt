use Rattle.std.proofs.Common.{◌≡◌, []}
use Rattle.graph_tests.proofs.stored_graphs.some_nodes.Given as goal

abbrev pub invariant-loop : goal.invariant-loop
invariant-loop l = record { edges : l.delta.edges ≡ []; settings : l.delta.settings ≡ [] }
