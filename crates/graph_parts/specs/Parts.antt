-- The parts of a node (ours): its children by their ORDER and label, and the arguments of a call.
-- Where several children could be meant, it is the one of the least number.
use Rattle.std.specs.Prelude.{ℕ, ◌≡◌, Some, slice_get}
use Rattle.cpg_schema.specs.declared.label.Label.{Label}
use Rattle.cpg_schema.specs.declared.edge_kind.EdgeKind.{EdgeKind}
use Rattle.cpg_schema.specs.declared.edge_kind.EdgeKind.TheVariants.{Ast, Argument}
use Rattle.cpg_schema.specs.Graph.{PlainNode, PlainEdge, PlainGraph}
use Rattle.graph_parts.specs.Finds.{IsLeast}

-- An edge of this kind leads from one node to the other.
pub record HasEdge (graph : PlainGraph) (kind : EdgeKind) (from to : ℕ) : Type 0 where
  pub position : ℕ
  pub edge : PlainEdge
  pub edge_is : slice_get graph.edges position ≡ Some edge
  pub kind_is : edge.kind ≡ kind
  pub from_is : edge.from ≡ from
  pub to_is : edge.to ≡ to

-- A child of a node: an AST edge leads to it from there.
abbrev pub IsChild : PlainGraph → ℕ → ℕ → Type 0
IsChild graph parent child = HasEdge graph Ast parent child

-- The node of this number has the property.
pub record IsNodeWith (graph : PlainGraph) (P : PlainNode → Type 0) (number : ℕ) : Type 0 where
  pub node : PlainNode
  pub node_is : slice_get graph.nodes number ≡ Some node
  pub has : P node

-- The property of a node that its label is this one; likewise its ORDER and its ARGUMENT_INDEX.
abbrev pub HasLabel : Label → PlainNode → Type 0
HasLabel label node = node.label ≡ label

abbrev pub HasOrder : ℕ → PlainNode → Type 0
HasOrder order node = node.order ≡ Some order

abbrev pub HasIndex : ℕ → PlainNode → Type 0
HasIndex index node = node.argument_index ≡ Some index

-- A child with the property.
pub record IsChildWith (graph : PlainGraph) (P : PlainNode → Type 0) (parent child : ℕ) :
    Type 0 where
  pub is_child : IsChild graph parent child
  pub is_node : IsNodeWith graph P child

-- Part k of a node: its child with ORDER k.
abbrev pub IsPart : PlainGraph → ℕ → ℕ → ℕ → Type 0
IsPart graph k parent child = IsLeast (IsChildWith graph (HasOrder k) parent) child

-- The child of a label: the BLOCK of a METHOD and its METHOD_RETURN are such.
abbrev pub IsChildOf : PlainGraph → Label → ℕ → ℕ → Type 0
IsChildOf graph label parent child = IsLeast (IsChildWith graph (HasLabel label) parent) child

-- Number i of a label: parameter i of a METHOD and its METHOD_PARAMETER_OUT i are such, by ORDER.
abbrev pub IsNumbered : PlainGraph → Label → ℕ → ℕ → ℕ → Type 0
IsNumbered graph label i parent child =
    IsLeast (IsChildWith graph (λ node. HasLabel label node × HasOrder i node) parent) child

-- An argument of a call that has this ARGUMENT_INDEX: a child to which an ARGUMENT edge of the call
-- leads too.
pub record IsArgumentWith (graph : PlainGraph) (index call argument : ℕ) : Type 0 where
  pub is_child : IsChild graph call argument
  pub is_argument : HasEdge graph Argument call argument
  pub is_node : IsNodeWith graph (HasIndex index) argument

-- Argument i of a call.
abbrev pub IsArgument : PlainGraph → ℕ → ℕ → ℕ → Type 0
IsArgument graph i call argument = IsLeast (IsArgumentWith graph i call) argument
