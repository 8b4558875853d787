-- Where all nodes of a graph stand (ours), told by one walk.
use Rattle.std.specs.Prelude.{ℕ, ◌≡◌, List, Option, Some, length, slice_get}
use Rattle.cpg_schema.specs.Graph.{PlainGraph}
use Rattle.graph_parts.specs.Finds.{Finds}
use Rattle.graph_parts.specs.Standing.{IsMethodAbove, IsRootOf}

-- For each node, by its number, the nearest METHOD above it and the root of its tree.
pub record Placed : Type 0 where
  pub methods : List (Option ℕ)
  pub roots : List ℕ

-- The places are those of the nodes of this graph.
pub record ArePlacesOf (graph : PlainGraph) (placed : Placed) : Type 0 where
  pub method_count : length placed.methods ≡ length graph.nodes
  pub root_count : length placed.roots ≡ length graph.nodes
  pub methods : (node : ℕ) (method : Option ℕ) → slice_get placed.methods node ≡ Some method →
      Finds (IsMethodAbove graph node) method
  pub roots : (node root : ℕ) → slice_get placed.roots node ≡ Some root → IsRootOf graph node root
