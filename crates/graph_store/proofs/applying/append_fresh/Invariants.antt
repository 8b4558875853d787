use Rattle.std.proofs.Common.{◌≡◌, ◌+◌, ◌≤◌, ◌++◌, length, map, take, vec_capacity}
use Rattle.graph_store.specs.DeltaRows.{fresh_row}
use Rattle.graph_store.specs.GrownRows.{edge_of_row}
use Rattle.graph_store.proofs.applying.append_fresh.Given as goal

abbrev pub invariant-loop-edge : goal.invariant-loop-edge
invariant-loop-edge l = record {
  items : l.edges.items ≡ l.fn.edges.items ++ map (edge_of_row l.first l.numbers) (map fresh_row (take l.edge-index l.more));
  room : length l.edges.items + length l.more ≤ vec_capacity l.edges + l.edge-index;
  capacity : vec_capacity l.fn.edges ≤ vec_capacity l.edges;
}
