-- The nodes above one, as a list (ours): what a definition that computes takes the METHOD and the
-- root of a node from.
use Rattle.std.specs.Prelude.{ℕ, zero, suc, ◌&&◌, ◌==◌, Bool, List, [], ◌∷◌, Option, Some, None}
use Rattle.std.specs.Prelude.{if◌then◌else◌, length, slice_get}
use Rattle.cpg_schema.specs.declared.label.Label.{Label}
use Rattle.cpg_schema.specs.declared.label.Label.TheVariants.{Method}
use Rattle.cpg_schema.specs.declared.edge_kind.EdgeKind.TheVariants.{Ast}
use Rattle.cpg_schema.specs.Names.{kind_rank, label_rank}
use Rattle.cpg_schema.specs.Graph.{PlainNode, PlainEdge, PlainGraph}

-- The node from which the first AST edge to this one leads.
abbrev pub parent_in : List PlainEdge → ℕ → Option ℕ
parent_in [] node = None
parent_in (edge ∷ edges) node =
    if (kind_rank edge.kind == kind_rank Ast) && (edge.to == node) then Some edge.from
    else parent_in edges node

abbrev pub parent_at : PlainGraph → ℕ → Option ℕ
parent_at graph node = parent_in graph.edges node

-- A parent and what is above it, where there is one.
abbrev pub with_above : (ℕ → List ℕ) → Option ℕ → List ℕ
with_above above None = []
with_above above (Some parent) = parent ∷ above parent

-- The nodes above one, the nearest first, and no more than so many.
abbrev pub above_within : PlainGraph → ℕ → ℕ → List ℕ
above_within graph zero node = []
above_within graph (suc count) node = with_above (above_within graph count) (parent_at graph node)

-- All of them: in a shaped graph they are fewer than its nodes.
abbrev pub nodes_above : PlainGraph → ℕ → List ℕ
nodes_above graph node = above_within graph (length graph.nodes) node

-- The node of this number has this label.
abbrev pub is_labelled : PlainGraph → Label → ℕ → Bool
is_labelled graph label node = by (slice_get graph.nodes node)
  where
    by : Option PlainNode → Bool
    by None = Bool.false
    by (Some at) = label_rank at.label == label_rank label

-- The last of some nodes, or this one where there are none.
abbrev pub last_of : ℕ → List ℕ → ℕ
last_of node [] = node
last_of node (first ∷ rest) = last_of first rest

-- The first of some nodes that has this label.
abbrev pub first_labelled : PlainGraph → Label → List ℕ → Option ℕ
first_labelled graph label [] = None
first_labelled graph label (first ∷ rest) =
    if is_labelled graph label first then Some first else first_labelled graph label rest

-- The root of the tree of a node, and the METHOD in which it stands.
abbrev pub root_at : PlainGraph → ℕ → ℕ
root_at graph node = last_of node (nodes_above graph node)

abbrev pub method_at : PlainGraph → ℕ → Option ℕ
method_at graph node = first_labelled graph Method (nodes_above graph node)
