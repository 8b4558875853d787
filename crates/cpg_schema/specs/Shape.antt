-- The shape of a graph (ours): its AST edges make a forest.
use Rattle.std.specs.Prelude.{ℕ, ◌≡◌, List, Some, slice_get}
use Rattle.cpg_schema.specs.declared.edge_kind.EdgeKind.TheVariants.{Ast}
use Rattle.cpg_schema.specs.Graph.{PlainEdge, PlainGraph}

-- The edge at this position is an AST edge between these nodes.
pub record IsAstEdgeAt (edges : List PlainEdge) (position parent child : ℕ) : Type 0 where
  pub edge : PlainEdge
  pub edge_is : slice_get edges position ≡ Some edge
  pub kind : edge.kind ≡ Ast
  pub from : edge.from ≡ parent
  pub to : edge.to ≡ child

-- A path of one AST edge or more leads down from the ancestor to the node.
pub data IsAbove (edges : List PlainEdge) (ancestor : ℕ) : ℕ → Type 0 where
  child : (position node : ℕ) → IsAstEdgeAt edges position ancestor node →
      IsAbove edges ancestor node
  descendant : (position parent node : ℕ) → IsAbove edges ancestor parent →
      IsAstEdgeAt edges position parent node → IsAbove edges ancestor node

-- Each node has at most one AST edge to it, and no node is above itself.
pub record IsShaped (graph : PlainGraph) : Type 0 where
  pub one_parent : (first second parent other node : ℕ) →
      IsAstEdgeAt graph.edges first parent node → IsAstEdgeAt graph.edges second other node →
      first ≡ second
  pub no_cycle : (node : ℕ) → ¬ IsAbove graph.edges node node
