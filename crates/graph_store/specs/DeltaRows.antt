-- The rows of a delta, and what they stand for. Its texts are numbers of names of its own.
use Rattle.std.specs.Prelude.{ℕ, ◌≡◌, ◌<◌, ◌≤◌, ◌⊎◌, List, [], ◌++◌, length, map, slice_index_or}
use Rattle.std.specs.List.{All}
use Rattle.cpg_schema.specs.declared.edge_kind.EdgeKind.TheVariants.{ReachingDef}
use Rattle.cpg_schema.specs.declared.end.End.{End}
use Rattle.cpg_schema.specs.declared.end.End.TheVariants as end
use Rattle.cpg_schema.specs.Properties.{Property}
use Rattle.cpg_schema.specs.Deltas.{NewEdge, Setting, PlainDelta, IsNewEnd}
use Rattle.graph_store.specs.declared.names.TheConstants.{NO_NAME}
use Rattle.graph_store.specs.declared.edge.Edge.{Edge}
use Rattle.graph_store.specs.declared.node_row.NodeRow.{NodeRow}
use Rattle.graph_store.specs.declared.delta_row.EndRow.{EndRow}
use Rattle.graph_store.specs.declared.delta_row.EndRow.TheVariants as end_row
use Rattle.graph_store.specs.declared.delta_row.NewEdgeRow.{NewEdgeRow}
use Rattle.graph_store.specs.declared.delta_row.ValueRow.{ValueRow}
use Rattle.graph_store.specs.declared.delta_row.ValueRow.TheVariants as value_row
use Rattle.graph_store.specs.declared.delta_row.SettingRow.{SettingRow}
use Rattle.graph_store.specs.Pool.{BeginsEmpty}
use Rattle.graph_store.specs.Rows.{plain_node, HasNames, IsNameOrNone}

-- The end that a row stands for.
abbrev pub plain_end : EndRow → End
plain_end (end_row.Old node) = end.Old node
plain_end (end_row.New position) = end.New position

-- The row of an edge between two new nodes, which is kept as an edge of their positions.
abbrev pub fresh_row : Edge → NewEdgeRow
fresh_row edge = record {
  from = end_row.New edge.from;
  to = end_row.New edge.to;
  variable = edge.variable;
  kind = edge.kind;
}

-- The rows of all edges: those between new nodes that come before any other, and the others.
abbrev pub edge_rows : List Edge → List NewEdgeRow → List NewEdgeRow
edge_rows fresh others = map fresh_row fresh ++ others

-- The new edge, with its variable's name; the empty name is kept as `NO_NAME`.
abbrev pub plain_new_edge : List (List ℕ) → NewEdgeRow → NewEdge
plain_new_edge names row = record {
  from = plain_end row.from;
  kind = row.kind;
  to = plain_end row.to;
  variable = slice_index_or names row.variable [];
}

-- The value of a property, with the text for its number.
abbrev pub plain_value : List (List ℕ) → ValueRow → Property
plain_value names (value_row.Text number) = Property.text (slice_index_or names number [])
plain_value names (value_row.Number value) = Property.number value

-- The setting.
abbrev pub plain_setting : List (List ℕ) → SettingRow → Setting
plain_setting names row = record {
  node = row.node;
  key = row.key;
  value = plain_value names row.value;
}

-- The delta.
abbrev pub plain_delta :
    List (List ℕ) → List NodeRow → List NewEdgeRow → List SettingRow → PlainDelta
plain_delta names nodes edges settings = record {
  nodes = map (plain_node names) nodes;
  edges = map (plain_new_edge names) edges;
  settings = map (plain_setting names) settings;
}

-- The new ends are of so many nodes, and the variable is one of so many names or the empty one.
pub record IsNewEdgeRow (nodes names : ℕ) (row : NewEdgeRow) : Type 0 where
  pub from : IsNewEnd nodes (plain_end row.from)
  pub to : IsNewEnd nodes (plain_end row.to)
  pub variable : IsNameOrNone names row.variable
  pub unnamed : (row.kind ≡ ReachingDef) ⊎ (row.variable ≡ NO_NAME)

-- The value, if it is a text, is one of so many names.
abbrev pub HasText : ℕ → ValueRow → Type 0
HasText names (value_row.Text number) = number < names
HasText names (value_row.Number value) = Unit {0}

-- What always holds of the names and rows of a delta.
pub record AreDeltaRows
    (names : List (List ℕ)) (nodes : List NodeRow) (edges : List NewEdgeRow)
    (settings : List SettingRow) : Type 0 where
  pub few_nodes : length nodes ≤ NO_NAME
  pub few_names : length names ≤ NO_NAME
  pub begins : BeginsEmpty names
  pub texts : All (HasNames (length names)) nodes
  pub additions : All (IsNewEdgeRow (length nodes) (length names)) edges
  pub values : All (λ (row : SettingRow). HasText (length names) row.value) settings
