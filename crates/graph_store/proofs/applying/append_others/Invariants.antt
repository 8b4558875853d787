use Rattle.std.proofs.Common.{◌≡◌, ◌+◌, ◌≤◌, ◌++◌, length, map, take, vec_capacity}
use Rattle.graph_store.specs.GrownRows.{edge_of_row}
use Rattle.graph_store.proofs.applying.append_others.Given as goal

abbrev pub invariant-loop-row : goal.invariant-loop-row
invariant-loop-row l = record {
  items : l.edges.items ≡ l.fn.edges.items ++ map (edge_of_row l.first l.numbers) (take l.row-index l.more);
  room : length l.edges.items + length l.more ≤ vec_capacity l.edges + l.row-index;
}
