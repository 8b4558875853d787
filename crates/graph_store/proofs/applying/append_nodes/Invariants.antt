use Rattle.std.proofs.Common.{◌≡◌, ◌+◌, ◌≤◌, ◌++◌, length, map, take, vec_capacity}
use Rattle.graph_store.specs.Rows.{renumbered}
use Rattle.graph_store.proofs.applying.append_nodes.Given as goal

abbrev pub invariant-loop-node : goal.invariant-loop-node
invariant-loop-node l = record {
  items : l.nodes.items ≡ l.fn.nodes.items ++ map (renumbered l.numbers) (take l.node-index l.more);
  room : length l.nodes.items + length l.more ≤ vec_capacity l.nodes + l.node-index;
}
