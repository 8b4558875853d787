-- The edges that the units add (ours): AST, SOURCE_FILE, CONTAINS and PARAMETER_LINK. New node 0 of
-- a unit is its FILE, and new node 1 its NAMESPACE_BLOCK.
use Rattle.std.specs.Prelude.{ℕ, ◌+◌, ◌==◌, ◌&&◌, Bool, List, [], ◌∷◌, ◌++◌, Option, Some, None}
use Rattle.std.specs.Prelude.{if◌then◌else◌}
use Rattle.std.specs.List.{list_any}
use Rattle.cpg_schema.specs.declared.end.End.{End}
use Rattle.cpg_schema.specs.declared.end.End.TheVariants.{Old, New}
use Rattle.cpg_schema.specs.declared.label.Label.{Label}
use Rattle.cpg_schema.specs.declared.label.Label.TheVariants as label
use Rattle.cpg_schema.specs.declared.edge_kind.EdgeKind.{EdgeKind}
use Rattle.cpg_schema.specs.declared.edge_kind.EdgeKind.TheVariants as edge_kind
use Rattle.cpg_schema.specs.Names.{kind_rank}
use Rattle.cpg_schema.specs.Graph.{PlainGraph}
use Rattle.cpg_schema.specs.Deltas.{NewEdge}
use Rattle.graph_parts.specs.NodesAbove.{is_labelled, method_at, parent_at}
use Rattle.unit_rules.specs.Units.{label_at}

-- An edge without a variable.
abbrev pub edge_between : End → EdgeKind → End → NewEdge
edge_between from kind to = record { from = from; kind = kind; to = to; variable = [] }

-- The method has a body: a BLOCK is its child.
abbrev pub has_body : PlainGraph → ℕ → Bool
has_body graph method =
    list_any (λ edge. (kind_rank edge.kind == kind_rank edge_kind.Ast) && (edge.from == method)
    && is_labelled graph label.Block edge.to) graph.edges

-- A SOURCE_FILE edge leads from the node to the FILE.
abbrev pub from_source : ℕ → NewEdge
from_source node = edge_between (Old node) edge_kind.SourceFile (New 0)

-- The FILE contains the node.
abbrev pub in_file : ℕ → NewEdge
in_file node = edge_between (New 0) edge_kind.Contains (Old node)

-- The METHOD above a call contains it.
abbrev pub in_method : Option ℕ → ℕ → List NewEdge
in_method None call = []
in_method (Some method) call = edge_between (Old method) edge_kind.Contains (Old call) ∷ []

-- What a node of the unit adds, by its label. A METHOD with a body and a TYPE_DECL have a
-- SOURCE_FILE, the FILE contains METHODs and TYPE_DECLs, and the nearest METHOD above a CALL
-- contains it.
abbrev pub label_edges : PlainGraph → ℕ → Option Label → List NewEdge
label_edges graph node (Some label.Method) =
    (if has_body graph node then from_source node ∷ [] else []) ++ in_file node ∷ []
label_edges graph node (Some label.TypeDecl) = from_source node ∷ in_file node ∷ []
label_edges graph node (Some label.Call) = in_method (method_at graph node) node
label_edges graph node _ = []

abbrev pub member_edges : PlainGraph → ℕ → List NewEdge
member_edges graph node = label_edges graph node (label_at graph node)

-- A parameter and its METHOD_PARAMETER_OUT, the new node of this number: the parameter's METHOD is
-- the parent of both, and a PARAMETER_LINK leads from one to the other.
abbrev pub out_edges : ℕ → ℕ → Option ℕ → List NewEdge
out_edges parameter out None = edge_between (Old parameter) edge_kind.ParameterLink (New out) ∷ []
out_edges parameter out (Some method) =
    edge_between (Old method) edge_kind.Ast (New out)
    ∷ edge_between (Old parameter) edge_kind.ParameterLink (New out)
    ∷ []

abbrev pub parameter_edges : PlainGraph → ℕ → ℕ → List NewEdge
parameter_edges graph parameter out = out_edges parameter out (parent_at graph parameter)

-- Those of several parameters, whose METHOD_PARAMETER_OUTs are numbered on from this one.
abbrev pub linked : PlainGraph → ℕ → List ℕ → List NewEdge
linked graph out [] = []
linked graph out (first ∷ rest) = parameter_edges graph first out ++ linked graph (out + 1) rest

-- Those of the FILE and the NAMESPACE_BLOCK themselves.
abbrev pub top_edges : ℕ → List NewEdge
top_edges unit =
    edge_between (New 1) edge_kind.Ast (Old unit)
    ∷ edge_between (New 0) edge_kind.Ast (New 1)
    ∷ edge_between (New 1) edge_kind.SourceFile (New 0)
    ∷ []
