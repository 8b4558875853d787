-- The rows of a graph, and what they stand for. A text is the number of a pooled name, and where
-- there is none `NO_NAME`, which is past all names.
use Rattle.std.specs.Prelude.{ℕ, ◌≡◌, ◌-◌, ◌^◌, ◌<◌, ◌≤◌, ◌⊎◌, Bool, List, [], Option}
use Rattle.std.specs.Prelude.{if◌then◌else◌, Some, None, length, map, slice_get, slice_index_or}
use Rattle.std.specs.List.{All}
use Rattle.cpg_schema.specs.declared.key.Key.{Key}
use Rattle.cpg_schema.specs.declared.key.Key.TheVariants as key
use Rattle.cpg_schema.specs.declared.caps.Caps.{Caps}
use Rattle.cpg_schema.specs.Graph.{PlainNode, plain_graph}
use Rattle.cpg_schema.specs.Fitting.{IsGraph}
use Rattle.graph_store.specs.declared.names.TheConstants.{NO_NAME}
use Rattle.graph_store.specs.declared.node_row.NodeRow.{NodeRow}
use Rattle.graph_store.specs.declared.edge.Edge.{Edge}
use Rattle.graph_store.specs.Stored.{plain_edge, IsVariable}

-- The number, where there is one.
abbrev pub number_if : Bool → ℕ → Option ℕ
number_if is_there value = if is_there then Some value else None

-- The node that a row stands for, with names for the numbers of its texts.
abbrev pub plain_node : List (List ℕ) → NodeRow → PlainNode
plain_node names row = record {
  label = row.label;
  name = slice_get names row.name;
  code = slice_get names row.code;
  filename = slice_get names row.filename;
  line_number = number_if row.has_line_number row.line_number;
  order = number_if row.has_order row.order;
  argument_index = number_if row.has_argument_index row.argument_index;
  type_full_name = slice_get names row.type_full_name;
  control_structure_type = slice_get names row.control_structure_type;
  linkage = slice_get names row.linkage;
}

-- The number of the text of this key.
abbrev pub row_text : Key → NodeRow → ℕ
row_text key.Name row = row.name
row_text key.Code row = row.code
row_text key.Filename row = row.filename
row_text key.TypeFullName row = row.type_full_name
row_text key.ControlStructureType row = row.control_structure_type
row_text key.Linkage row = row.linkage
row_text _ row = NO_NAME

-- The row with this number for the text of a text's key.
abbrev pub row_with_text : Key → ℕ → NodeRow → NodeRow
row_with_text key.Name number row = record row { name = number }
row_with_text key.Code number row = record row { code = number }
row_with_text key.Filename number row = record row { filename = number }
row_with_text key.TypeFullName number row = record row { type_full_name = number }
row_with_text key.ControlStructureType number row = record row { control_structure_type = number }
row_with_text key.Linkage number row = record row { linkage = number }
row_with_text _ number row = row

-- The row with this number of a number's key.
abbrev pub row_with_number : Key → ℕ → NodeRow → NodeRow
row_with_number key.LineNumber value row =
    record row { has_line_number = Bool.true; line_number = value }
row_with_number key.Order value row = record row { has_order = Bool.true; order = value }
row_with_number key.ArgumentIndex value row =
    record row { has_argument_index = Bool.true; argument_index = value }
row_with_number _ value row = row

-- The row with other numbers for its texts.
abbrev pub renumbered : List ℕ → NodeRow → NodeRow
renumbered numbers row = record row {
  name = slice_index_or numbers row.name NO_NAME;
  code = slice_index_or numbers row.code NO_NAME;
  filename = slice_index_or numbers row.filename NO_NAME;
  type_full_name = slice_index_or numbers row.type_full_name NO_NAME;
  control_structure_type = slice_index_or numbers row.control_structure_type NO_NAME;
  linkage = slice_index_or numbers row.linkage NO_NAME;
}

-- The number of one of so many names, or of none.
abbrev pub IsNameOrNone : ℕ → ℕ → Type 0
IsNameOrNone count number = (number < count) ⊎ (number ≡ NO_NAME)

-- The texts of a row are of so many names.
pub record HasNames (count : ℕ) (row : NodeRow) : Type 0 where
  pub name : IsNameOrNone count row.name
  pub code : IsNameOrNone count row.code
  pub filename : IsNameOrNone count row.filename
  pub type_full_name : IsNameOrNone count row.type_full_name
  pub control_structure_type : IsNameOrNone count row.control_structure_type
  pub linkage : IsNameOrNone count row.linkage

-- What always holds of the rows, the edges, the names and the caps of a graph.
pub record AreGraphRows
    (rows : List NodeRow) (edges : List Edge) (names : List (List ℕ)) (caps : Caps) : Type 0 where
  pub few_nodes : length rows ≤ caps.nodes
  pub few_edges : length edges ≤ caps.edges
  pub small_nodes : caps.nodes < 2 ^ 32 - 1
  pub few_names : length names ≤ NO_NAME
  pub empty : slice_get names 0 ≡ Some []
  pub texts : All (HasNames (length names)) rows
  pub variables : All (IsVariable (length names)) edges
  pub is_graph :
      IsGraph (plain_graph (map (plain_node names) rows) (map (plain_edge names) edges))
