-- What contracts see of a graph, and the plain graph that it stands for.
use Rattle.std.specs.Prelude.{ℕ, ◌≡◌, ◌-◌, ◌^◌, ◌<◌, ◌≤◌, ◌⊎◌, List, [], Some, length, map}
use Rattle.std.specs.Prelude.{slice_get, slice_index_or}
use Rattle.std.specs.List.{All}
use Rattle.cpg_schema.specs.declared.caps.Caps.{Caps}
use Rattle.cpg_schema.specs.declared.edge_kind.EdgeKind.TheVariants.{ReachingDef}
use Rattle.cpg_schema.specs.Graph.{PlainNode, PlainEdge, PlainGraph}
use Rattle.cpg_schema.specs.Deltas.{PlainDelta, applied}
use Rattle.cpg_schema.specs.Fitting.{IsGraph}
use Rattle.graph_store.specs.declared.edge.Edge.{Edge}
use Rattle.graph_store.specs.Pool.{Adds, AreDistinct}

-- The nodes with their properties, the edges with numbers for their names, the pooled names, and
-- the caps. The number of a name is its position among the pooled names.
pub record StoredGraph : Type 0 where
  pub nodes : List PlainNode
  pub edges : List Edge
  pub names : List (List ℕ)
  pub caps : Caps

-- The edge with its variable's name in place of the number.
abbrev pub plain_edge : List (List ℕ) → Edge → PlainEdge
plain_edge names edge = record {
  from = edge.from;
  kind = edge.kind;
  to = edge.to;
  variable = slice_index_or names edge.variable [];
}

-- The plain graph. Which number a name has does not show in it.
abbrev pub plain : StoredGraph → PlainGraph
plain graph = record { nodes = graph.nodes; edges = map (plain_edge graph.names) graph.edges }

-- The variable of an edge is one of so many names, and the empty one except on a REACHING_DEF.
pub record IsVariable (count : ℕ) (edge : Edge) : Type 0 where
  pub pooled : edge.variable < count
  pub unnamed : (edge.kind ≡ ReachingDef) ⊎ (edge.variable ≡ 0)

-- What is so of every graph. It has no more nodes and edges than its caps, and its cap of nodes is
-- below the largest u32. Its edges are among its nodes. Each of its names is pooled once, the empty
-- one first.
pub record IsStored (graph : StoredGraph) : Type 0 where
  pub few_nodes : length graph.nodes ≤ graph.caps.nodes
  pub few_edges : length graph.edges ≤ graph.caps.edges
  pub small_nodes : graph.caps.nodes < 2 ^ 32 - 1
  pub small_edges : graph.caps.edges < 2 ^ 32
  pub is_graph : IsGraph (plain graph)
  pub variables : All (IsVariable (length graph.names)) graph.edges
  pub empty : slice_get graph.names 0 ≡ Some []
  pub distinct : AreDistinct graph.names

-- The graph with a delta more. The caps stay, and so do the numbers of the names.
pub record Grows (old new : StoredGraph) (delta : PlainDelta) : Type 0 where
  pub is : plain new ≡ applied (plain old) delta
  pub caps : new.caps ≡ old.caps
  pub names : Adds old.names new.names
