-- Deltas (ours): what is to be added to a graph, and the graph that this gives.
use Rattle.std.specs.Prelude.{ℕ, zero, suc, ◌+◌, ◌<◌, List, [], ◌∷◌, ◌++◌, length, map}
use Rattle.cpg_schema.specs.declared.key.Key.{Key}
use Rattle.cpg_schema.specs.declared.edge_kind.EdgeKind.{EdgeKind}
use Rattle.cpg_schema.specs.declared.end.End.{End}
use Rattle.cpg_schema.specs.declared.end.End.TheVariants.{Old, New}
use Rattle.cpg_schema.specs.Graph.{PlainNode, PlainEdge, PlainGraph}
use Rattle.cpg_schema.specs.Properties.{Property, with_property}

-- An edge that is to be added. Each end is a node of the graph, by its number, or a new node, by
-- its position in the delta.
pub record NewEdge : Type 0 where
  pub from : End
  pub kind : EdgeKind
  pub to : End
  pub variable : List ℕ

-- A property that a node of the graph is to have.
pub record Setting : Type 0 where
  pub node : ℕ
  pub key : Key
  pub value : Property

-- A delta: new nodes with their properties, edges, and properties of the nodes that are there.
pub record PlainDelta : Type 0 where
  pub nodes : List PlainNode
  pub edges : List NewEdge
  pub settings : List Setting

-- The delta that adds nothing.
abbrev pub empty_delta : PlainDelta
empty_delta = record { nodes = []; edges = []; settings = [] }

-- The items, of which the one at this position is changed.
abbrev pub changed_at : {A : Type 0} → ℕ → (A → A) → List A → List A
changed_at position change [] = []
changed_at zero change (first ∷ rest) = change first ∷ rest
changed_at (suc position) change (first ∷ rest) = first ∷ changed_at position change rest

-- A new end is one of so many new nodes.
abbrev pub IsNewEnd : ℕ → End → Type 0
IsNewEnd count (Old node) = Unit {0}
IsNewEnd count (New position) = position < count

-- The delta with a property set: at a new node at once, and at a node of the graph as a setting.
abbrev pub set_at : End → Key → Property → PlainDelta → PlainDelta
set_at (Old node) key value delta = record delta {
  settings = delta.settings ++ record { node = node; key = key; value = value } ∷ [];
}
set_at (New position) key value delta = record delta {
  nodes = changed_at position (with_property key value) delta.nodes;
}

-- The nodes with a setting, and with all of some settings, from the first on.
abbrev pub with_setting : Setting → List PlainNode → List PlainNode
with_setting setting nodes = changed_at setting.node (with_property setting.key setting.value) nodes

abbrev pub with_settings : List Setting → List PlainNode → List PlainNode
with_settings [] nodes = nodes
with_settings (first ∷ rest) nodes = with_settings rest (with_setting first nodes)

-- The number of an end, where the first new node has this number.
abbrev pub end_number : ℕ → End → ℕ
end_number first (Old node) = node
end_number first (New position) = first + position

-- The edge that is added, where the first new node has this number.
abbrev pub added_edge : ℕ → NewEdge → PlainEdge
added_edge first edge = record {
  from = end_number first edge.from;
  kind = edge.kind;
  to = end_number first edge.to;
  variable = edge.variable;
}

-- The graph with a delta: the new nodes come after those that are there, and the edges likewise.
abbrev pub applied : PlainGraph → PlainDelta → PlainGraph
applied graph delta = record {
  nodes = with_settings delta.settings graph.nodes ++ delta.nodes;
  edges = graph.edges ++ map (added_edge (length graph.nodes)) delta.edges;
}
