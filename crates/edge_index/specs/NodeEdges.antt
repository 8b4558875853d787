-- The edges of one node of a graph (ours), of one kind and in order.
use Rattle.std.specs.Prelude.{ℕ, ◌&&◌, ◌==◌, Bool, List, filter}
use Rattle.cpg_schema.specs.declared.edge_kind.EdgeKind.{EdgeKind}
use Rattle.cpg_schema.specs.Names.{kind_rank}
use Rattle.cpg_schema.specs.Graph.{PlainEdge, PlainGraph}
use Rattle.cpg_schema.specs.Order.{in_order}

-- The edge leads from this node and is of this kind.
abbrev pub leads_from : ℕ → EdgeKind → PlainEdge → Bool
leads_from id kind edge = (edge.from == id) && (kind_rank edge.kind == kind_rank kind)

-- The edge leads to this node and is of this kind.
abbrev pub leads_to : ℕ → EdgeKind → PlainEdge → Bool
leads_to id kind edge = (edge.to == id) && (kind_rank edge.kind == kind_rank kind)

-- The edges of this kind from a node: they rise by `to`, and then by the variable.
abbrev pub edges_from : PlainGraph → ℕ → EdgeKind → List PlainEdge
edges_from graph id kind = in_order (filter (leads_from id kind) graph.edges)

-- The edges of this kind to a node: they rise by `from`, and then by the variable.
abbrev pub edges_to : PlainGraph → ℕ → EdgeKind → List PlainEdge
edges_to graph id kind = in_order (filter (leads_to id kind) graph.edges)
