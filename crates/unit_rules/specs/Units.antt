-- The units of a graph (ours): the METHODs that stand for whole files, and the nodes of each.
use Rattle.std.specs.Prelude.{ℕ, ◌&&◌, ◌==◌, Bool, List, Option, Some, None, codes, filter, length}
use Rattle.std.specs.Prelude.{slice_get}
use Rattle.std.specs.List.{range_with_len}
use Rattle.std.specs.Option.{option_and_then, option_map}
use Rattle.std.specs.Str.{bytes_eq}
use Rattle.cpg_schema.specs.declared.key.Key.TheVariants.{Name}
use Rattle.cpg_schema.specs.declared.label.Label.{Label}
use Rattle.cpg_schema.specs.declared.label.Label.TheVariants.{Method}
use Rattle.cpg_schema.specs.declared.edge_kind.EdgeKind.TheVariants.{Ast}
use Rattle.cpg_schema.specs.Names.{kind_rank}
use Rattle.cpg_schema.specs.Graph.{PlainNode, PlainEdge, PlainGraph}
use Rattle.cpg_schema.specs.Properties.{text_of}
use Rattle.graph_parts.specs.NodesAbove.{is_labelled, parent_at, root_at}

-- The name `<global>`.
abbrev pub global_name : List ℕ
global_name = codes "<global>"

-- The name of the node of this number, and its label.
abbrev pub name_at : PlainGraph → ℕ → Option (List ℕ)
name_at graph node = option_and_then (text_of Name) (slice_get graph.nodes node)

abbrev pub label_at : PlainGraph → ℕ → Option Label
label_at graph node = option_map (λ (at : PlainNode). at.label) (slice_get graph.nodes node)

-- The name is `<global>`.
abbrev pub is_global_name : Option (List ℕ) → Bool
is_global_name None = Bool.false
is_global_name (Some name) = bytes_eq name global_name

-- A METHOD named `<global>`.
abbrev pub is_global : PlainGraph → ℕ → Bool
is_global graph node = is_labelled graph Method node && is_global_name (name_at graph node)

-- An AST edge to such a METHOD.
abbrev pub is_inner : PlainGraph → PlainEdge → Bool
is_inner graph edge = (kind_rank edge.kind == kind_rank Ast) && is_global graph edge.to

-- Nothing is found.
abbrev pub is_missing : Option ℕ → Bool
is_missing None = Bool.true
is_missing (Some number) = Bool.false

-- A unit: a METHOD named `<global>` to which no AST edge leads. It stands for a file.
abbrev pub is_unit : PlainGraph → ℕ → Bool
is_unit graph node = is_global graph node && is_missing (parent_at graph node)

-- All numbers of nodes, rising.
abbrev pub all_nodes : PlainGraph → List ℕ
all_nodes graph = range_with_len 0 (length graph.nodes)

-- The units, rising.
abbrev pub units : PlainGraph → List ℕ
units graph = filter (is_unit graph) (all_nodes graph)

-- The nodes of a unit, rising: those of whose tree it is the root, and so itself too.
abbrev pub members : PlainGraph → ℕ → List ℕ
members graph unit = filter (λ node. root_at graph node == unit) (all_nodes graph)

-- Those of some nodes that have this label.
abbrev pub labelled : PlainGraph → Label → List ℕ → List ℕ
labelled graph label nodes = filter (is_labelled graph label) nodes
