-- The index of a graph (ours): its edges twice, by the nodes that they leave and by the nodes at
-- which they arrive.
use Rattle.std.specs.Prelude.{
  ℕ,
  ◌≡◌,
  ◌<◌,
  ◌&&◌,
  ◌==◌,
  List,
  [],
  filter,
  flat_map,
  length,
  map,
  slice_index_or,
  IsPermutation,
}
use Rattle.std.specs.List.{All, range_with_len}
use Rattle.cpg_schema.specs.declared.edge_kind.EdgeKind.{EdgeKind}
use Rattle.cpg_schema.specs.Names.{all_kinds, kind_rank}
use Rattle.cpg_schema.specs.Graph.{PlainEdge}
use Rattle.cpg_schema.specs.Order.{in_order}
use Rattle.graph_store.specs.declared.edge.Edge.{Edge}
use Rattle.graph_store.specs.Stored.{StoredGraph, plain_edge}

-- An index as contracts see it: how many nodes the graph has, and its edges in two orders.
pub record Indexed : Type 0 where
  pub node_count : ℕ
  pub leaving : List Edge
  pub arriving : List Edge

-- The edge with its variable's name, and with its ends changed over.
abbrev pub turned_edge : List (List ℕ) → Edge → PlainEdge
turned_edge names edge = record {
  from = edge.to;
  kind = edge.kind;
  to = edge.from;
  variable = slice_index_or names edge.variable [];
}

-- These are the same edges, each once, in the order of what they show.
pub record AreInOrder (shown : Edge → PlainEdge) (edges ordered : List Edge) : Type 0 where
  pub same : IsPermutation edges ordered
  pub order : map shown ordered ≡ in_order (map shown edges)

-- The index is of this graph. The leaving edges stand in the order of printing: by from, kind, to
-- and variable. The arriving ones stand by to, kind, from and variable.
pub record IsIndexOf (graph : StoredGraph) (index : Indexed) : Type 0 where
  pub count : index.node_count ≡ length graph.nodes
  pub leaving : AreInOrder (plain_edge graph.names) graph.edges index.leaving
  pub arriving : AreInOrder (turned_edge graph.names) graph.edges index.arriving

-- The edges of an index that lead from this node and are of this kind.
abbrev pub out_edges : Indexed → ℕ → EdgeKind → List Edge
out_edges index id kind =
    filter (λ edge. (edge.from == id) && (kind_rank edge.kind == kind_rank kind)) index.leaving

-- The edges of an index that lead to this node and are of this kind.
abbrev pub into_edges : Indexed → ℕ → EdgeKind → List Edge
into_edges index id kind =
    filter (λ edge. (edge.to == id) && (kind_rank edge.kind == kind_rank kind)) index.arriving

-- The edges of an index that lead from this node, one kind after another.
abbrev pub node_edges : Indexed → ℕ → List Edge
node_edges index id = flat_map (out_edges index id) all_kinds

-- Those of all nodes, one node after another.
abbrev pub all_edges : Indexed → List Edge
all_edges index = flat_map (node_edges index) (range_with_len 0 index.node_count)

-- The edge's ends are among so many nodes, and its variable among so many names.
pub record IsWithin (nodes names : ℕ) (edge : Edge) : Type 0 where
  pub from : edge.from < nodes
  pub to : edge.to < nodes
  pub variable : edge.variable < names

-- What the index lends has nodes and names of this graph.
pub record LendsWithin (graph : StoredGraph) (index : Indexed) : Type 0 where
  pub edges : All (IsWithin (length graph.nodes) (length graph.names)) index.leaving
  pub out : (id : ℕ) (kind : EdgeKind) →
      All (IsWithin (length graph.nodes) (length graph.names)) (out_edges index id kind)
  pub into : (id : ℕ) (kind : EdgeKind) →
      All (IsWithin (length graph.nodes) (length graph.names)) (into_edges index id kind)
