use Rattle.std.proofs.Common.{◌≡◌, [], length}
use Rattle.graph_tests.proofs.printed_lines.node_delta.Given as goal

abbrev pub invariant-loop-key : goal.invariant-loop-key
invariant-loop-key l = record {
  one : length l.delta.nodes ≡ 1;
  edges : l.delta.edges ≡ [];
  settings : l.delta.settings ≡ [];
}
