-- The rows that a delta's rows become in a graph, whose pool has other numbers for the names.
use Rattle.std.specs.Prelude.{ℕ, ◌+◌, ◌<◌, ◌^◌, List, [], ◌∷◌, slice_index_or}
use Rattle.std.specs.Prelude.{if◌then◌else◌, nat_lt}
use Rattle.cpg_schema.specs.declared.key.Key.{Key}
use Rattle.cpg_schema.specs.Deltas.{changed_at}
use Rattle.graph_store.specs.declared.names.TheConstants.{NO_NAME}
use Rattle.graph_store.specs.declared.node_row.NodeRow.{NodeRow}
use Rattle.graph_store.specs.declared.edge.Edge.{Edge}
use Rattle.graph_store.specs.declared.delta_row.EndRow.{EndRow}
use Rattle.graph_store.specs.declared.delta_row.EndRow.TheVariants as end_row
use Rattle.graph_store.specs.declared.delta_row.NewEdgeRow.{NewEdgeRow}
use Rattle.graph_store.specs.declared.delta_row.ValueRow.{ValueRow}
use Rattle.graph_store.specs.declared.delta_row.ValueRow.TheVariants as value_row
use Rattle.graph_store.specs.declared.delta_row.SettingRow.{SettingRow}
use Rattle.graph_store.specs.Rows.{row_with_text, row_with_number}

-- The number of an end, where the first new node has this number.
abbrev pub end_row_number : ℕ → EndRow → ℕ
end_row_number first (end_row.Old node) = node
end_row_number first (end_row.New position) = first + position

-- The numbers of its ends have 32 bits.
pub record HasSmallEnds (first : ℕ) (row : NewEdgeRow) : Type 0 where
  pub from : end_row_number first row.from < 2 ^ 32
  pub to : end_row_number first row.to < 2 ^ 32

-- The edge that is added.
abbrev pub edge_of_row : ℕ → List ℕ → NewEdgeRow → Edge
edge_of_row first numbers row = record {
  from = end_row_number first row.from;
  kind = row.kind;
  to = end_row_number first row.to;
  variable = slice_index_or numbers row.variable 0;
}

-- The edge whose variable is one of so many names, and the first name where it was none.
abbrev pub edge_within : ℕ → Edge → Edge
edge_within count edge =
    record edge { variable = if nat_lt edge.variable count then edge.variable else 0 }

-- A node's row with a property set.
abbrev pub row_with_value : List ℕ → Key → ValueRow → NodeRow → NodeRow
row_with_value numbers key (value_row.Text number) row =
    row_with_text key (slice_index_or numbers number NO_NAME) row
row_with_value numbers key (value_row.Number value) row = row_with_number key value row

-- The rows with properties set, from the first setting on.
abbrev pub rows_with_settings : List ℕ → List SettingRow → List NodeRow → List NodeRow
rows_with_settings numbers [] rows = rows
rows_with_settings numbers (first ∷ rest) rows =
    rows_with_settings numbers rest
    (changed_at first.node (row_with_value numbers first.key first.value) rows)
