-- The scope of a declaration in a graph (C11 6.2.1, 6.8): a node, below which it holds what comes
-- after the declaration.
use Rattle.std.specs.Prelude.{ℕ, ◌&&◌, ◌||◌, ◌==◌, Bool, not, nat_lt, List, [], ◌∷◌, Option, Some}
use Rattle.std.specs.Prelude.{None, codes, if◌then◌else◌, slice_get}
use Rattle.std.specs.List.{list_any}
use Rattle.std.specs.Option.{option_and_then, option_map}
use Rattle.std.specs.Str.{bytes_eq}
use Rattle.cpg_schema.specs.declared.key.Key.TheVariants.{Order, ControlStructureType}
use Rattle.cpg_schema.specs.declared.label.Label.TheVariants.{Block, ControlStructure, Method}
use Rattle.cpg_schema.specs.declared.edge_kind.EdgeKind.TheVariants.{Ast}
use Rattle.cpg_schema.specs.Names.{kind_rank}
use Rattle.cpg_schema.specs.Graph.{PlainEdge, PlainGraph}
use Rattle.cpg_schema.specs.Properties.{number_of, text_of}
use Rattle.graph_parts.specs.NodesAbove.{is_labelled, nodes_above, parent_at}

-- ---- Parts of a node.

-- An optional number is this one.
abbrev pub is_number : ℕ → Option ℕ → Bool
is_number number None = Bool.false
is_number number (Some other) = other == number

-- The node of this number has this ORDER.
abbrev pub has_order : PlainGraph → ℕ → ℕ → Bool
has_order graph k node =
    is_number k (option_and_then (number_of Order) (slice_get graph.nodes node))

-- The edge leads from a parent to a child with this ORDER that comes before another node.
abbrev pub leads_before : PlainGraph → ℕ → ℕ → ℕ → PlainEdge → Bool
leads_before graph k parent node edge =
    (kind_rank edge.kind == kind_rank Ast) && (edge.from == parent)
    && nat_lt edge.to node && has_order graph k edge.to

-- A child of the parent is its part k: the first that has this ORDER.
abbrev pub is_part : PlainGraph → ℕ → ℕ → ℕ → Bool
is_part graph k parent child =
    has_order graph k child && not (list_any (leads_before graph k parent child) graph.edges)

-- ---- Control structures.

-- Which parts of a control structure of this type are bodies, or its else part (6.8.4, 6.8.5).
abbrev pub body_parts : List ℕ → List ℕ
body_parts type =
    if bytes_eq type (codes "IF") then 2 ∷ 3 ∷ []
    else (if bytes_eq type (codes "WHILE") then 2 ∷ []
    else (if bytes_eq type (codes "SWITCH") then 2 ∷ []
    else (if bytes_eq type (codes "DO") then 1 ∷ []
    else (if bytes_eq type (codes "FOR") then 4 ∷ []
    else []))))

-- A child of a control structure of this type is a body or the else part.
abbrev pub is_body_by : PlainGraph → ℕ → ℕ → Option (List ℕ) → Bool
is_body_by graph parent child None = Bool.false
is_body_by graph parent child (Some type) =
    list_any (λ k. is_part graph k parent child) (body_parts type)

-- The type of a control structure.
abbrev pub structure_at : PlainGraph → ℕ → Option (List ℕ)
structure_at graph node =
    option_and_then (text_of ControlStructureType) (slice_get graph.nodes node)

-- A child of the parent is a body or the else part of it, a CONTROL_STRUCTURE.
abbrev pub is_body_of : PlainGraph → ℕ → Option ℕ → Bool
is_body_of graph child None = Bool.false
is_body_of graph child (Some parent) =
    is_labelled graph ControlStructure parent
    && is_body_by graph parent child (structure_at graph parent)

-- An optional text is `FOR`.
abbrev pub is_for_type : Option (List ℕ) → Bool
is_for_type None = Bool.false
is_for_type (Some type) = bytes_eq type (codes "FOR")

abbrev pub is_for : PlainGraph → ℕ → Bool
is_for graph node =
    is_labelled graph ControlStructure node && is_for_type (structure_at graph node)

-- ---- Scopes.

-- A node opens a scope: a BLOCK, a METHOD, a CONTROL_STRUCTURE, and a body or else part of one.
abbrev pub opens_scope : PlainGraph → ℕ → Bool
opens_scope graph node =
    is_labelled graph Block node || is_labelled graph Method node
    || is_labelled graph ControlStructure node || is_body_of graph node (parent_at graph node)

-- The first of some nodes that opens one.
abbrev pub first_opening : PlainGraph → List ℕ → Option ℕ
first_opening graph [] = None
first_opening graph (first ∷ rest) =
    if opens_scope graph first then Some first else first_opening graph rest

-- The `for` whose first part a BLOCK is, and else the node itself: what a `for` declares holds in
-- all of it (6.8.5 p5).
abbrev pub widened_to : PlainGraph → ℕ → Option ℕ → ℕ
widened_to graph node None = node
widened_to graph node (Some parent) =
    if is_labelled graph Block node && is_for graph parent && is_part graph 1 parent node
    then parent else node

abbrev pub widened : PlainGraph → ℕ → ℕ
widened graph node = widened_to graph node (parent_at graph node)

-- The scope node of a declaration: the nearest above it that opens a scope, so widened.
abbrev pub scope_at : PlainGraph → ℕ → Option ℕ
scope_at graph declaration =
    option_map (widened graph) (first_opening graph (nodes_above graph declaration))

-- The optional node is one of some.
abbrev pub is_one_of : Option ℕ → List ℕ → Bool
is_one_of None nodes = Bool.false
is_one_of (Some node) nodes = list_any (λ other. other == node) nodes

-- The scope of a declaration holds a node: the node stands below the scope node and comes after the
-- declaration (6.2.1 p7).
abbrev pub holds : PlainGraph → ℕ → ℕ → Bool
holds graph declaration node =
    nat_lt declaration node && is_one_of (scope_at graph declaration) (nodes_above graph node)
