-- How an index is kept: two sides, each with the starts of its rows.
use Rattle.std.specs.Prelude.{ℕ, ◌≡◌, ◌+◌, length}
use Rattle.edge_index.specs.declared.side.Side.{Side}
use Rattle.edge_index.specs.Rows.{IsSide}

-- What is always so of an index that is kept so.
pub record IsKept (nodes : ℕ) (leaving arriving : Side) : Type 0 where
  pub leaving_nodes : length leaving.starts.items ≡ nodes + 1
  pub arriving_nodes : length arriving.starts.items ≡ nodes + 1
  pub leaving_rows : IsSide (λ edge. edge.from) leaving.starts.items leaving.edges.items
  pub arriving_rows : IsSide (λ edge. edge.to) arriving.starts.items arriving.edges.items
