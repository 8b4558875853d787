-- Forests (ours): nodes with their children, how each child hangs from its parent, and the delta
-- that a forest stands for.
use Rattle.std.specs.Prelude.{ℕ, ◌≡◌, ◌+◌, ◌&&◌, Bool, true, IsTrue, List, [], ◌∷◌, ◌++◌}
use Rattle.std.specs.Prelude.{length, map, Option, Some, None}
use Rattle.cpg_schema.specs.declared.label.Label.{Label}
use Rattle.cpg_schema.specs.declared.edge_kind.EdgeKind.{EdgeKind}
use Rattle.cpg_schema.specs.declared.edge_kind.EdgeKind.TheVariants as edge_kind
use Rattle.cpg_schema.specs.declared.end.End.TheVariants.{New}
use Rattle.cpg_schema.specs.Graph.{PlainNode}
use Rattle.cpg_schema.specs.Schema.{allows}
use Rattle.cpg_schema.specs.Deltas.{NewEdge, PlainDelta}
use Rattle.graph_forest.specs.declared.hang.Hang.{Hang}
use Rattle.graph_forest.specs.declared.hang.Hang.TheVariants.{Plain, Argument, Condition}

-- Trees in a row: nothing, or a tree and what comes after it. A tree is a node, how it hangs from
-- its parent if it has one, and its children, which are a forest.
pub data Forest : Type 0 where
  none : Forest
  tree : Hang → PlainNode → (children : Forest) → (after : Forest) → Forest

-- A tree alone.
abbrev pub branch : Hang → PlainNode → Forest → Forest
branch hang node children = tree hang node children none

-- A node alone.
abbrev pub leaf : Hang → PlainNode → Forest
leaf hang node = tree hang node none none

-- One forest after another.
unfoldable pub beside : Forest → Forest → Forest
beside none second = second
beside (tree hang node children after) second = tree hang node children (beside after second)

-- Forests one after another.
abbrev pub joined : List Forest → Forest
joined [] = none
joined (first ∷ rest) = beside first (joined rest)

-- The nodes in preorder: a node comes before its children, and they before what is after it.
unfoldable pub nodes_of : Forest → List PlainNode
nodes_of none = []
nodes_of (tree hang node children after) = node ∷ nodes_of children ++ nodes_of after

-- The kinds of the edges that lead from its parent to a node.
abbrev pub kinds_of : Hang → List EdgeKind
kinds_of Plain = edge_kind.Ast ∷ []
kinds_of (Argument index) = edge_kind.Ast ∷ edge_kind.Argument ∷ []
kinds_of Condition = edge_kind.Ast ∷ edge_kind.Condition ∷ []

-- An edge between two new nodes, by their positions.
abbrev pub edge_between : ℕ → ℕ → EdgeKind → NewEdge
edge_between parent child kind = record {
  from = New parent;
  kind = kind;
  to = New child;
  variable = [];
}

-- The edges to a node from its parent, where it has one.
abbrev pub edges_to : Option ℕ → Hang → ℕ → List NewEdge
edges_to None hang child = []
edges_to (Some parent) hang child = map (edge_between parent child) (kinds_of hang)

-- The edges of a forest that hangs from this parent, if from one, and whose first node is at this
-- position among the new nodes: for each node in preorder those from its parent.
unfoldable pub edges_of : Option ℕ → ℕ → Forest → List NewEdge
edges_of parent first none = []
edges_of parent first (tree hang node children after) =
    edges_to parent hang first
    ++ edges_of (Some first) (first + 1) children
    ++ edges_of parent (first + 1 + length (nodes_of children)) after

-- The delta with a forest more, which hangs from this new node, if from one.
unfoldable pub with_forest : Option ℕ → Forest → PlainDelta → PlainDelta
with_forest parent forest delta = record delta {
  nodes = delta.nodes ++ nodes_of forest;
  edges = delta.edges ++ edges_of parent (length delta.nodes) forest;
}

-- The delta that adds a forest.
unfoldable pub planted : Forest → PlainDelta
planted forest = record {
  nodes = nodes_of forest;
  edges = edges_of None 0 forest;
  settings = [];
}

-- The schema allows each edge to a node of a label from its parent's label, if it has a parent.
abbrev pub may_hang : Option Label → Hang → Label → Bool
may_hang None hang child = true
may_hang (Some parent) Plain child = allows edge_kind.Ast parent child
may_hang (Some parent) (Argument index) child =
    allows edge_kind.Ast parent child && allows edge_kind.Argument parent child
may_hang (Some parent) Condition child =
    allows edge_kind.Ast parent child && allows edge_kind.Condition parent child

-- Each node of a forest may hang so from its parent. The roots hang from a node of this label, if
-- from one.
abbrev pub IsAllowedUnder : Option Label → Forest → Type 0
IsAllowedUnder parent none = Unit {0}
IsAllowedUnder parent (tree hang node children after) =
    IsTrue (may_hang parent hang node.label)
    × IsAllowedUnder (Some node.label) children
    × IsAllowedUnder parent after

-- Each node that has a parent may hang so from it.
abbrev pub IsAllowed : Forest → Type 0
IsAllowed forest = IsAllowedUnder None forest

-- The delta adds a forest that is allowed, and does nothing else.
pub record IsPlanted (delta : PlainDelta) : Type 0 where
  pub forest : Forest
  pub allowed : IsAllowed forest
  pub is : delta ≡ planted forest
