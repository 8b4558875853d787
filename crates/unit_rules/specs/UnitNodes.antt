-- The nodes that the units add (ours).
use Rattle.std.specs.Prelude.{ℕ, Some, codes, slice_get}
use Rattle.std.specs.Option.{option_and_then}
use Rattle.cpg_schema.specs.declared.key.Key.TheVariants.{Filename, LineNumber, Name, Order}
use Rattle.cpg_schema.specs.declared.key.Key.TheVariants.{TypeFullName}
use Rattle.cpg_schema.specs.declared.label.Label.TheVariants.{MetaData, File, NamespaceBlock}
use Rattle.cpg_schema.specs.declared.label.Label.TheVariants.{MethodParameterOut}
use Rattle.cpg_schema.specs.Graph.{PlainNode, PlainGraph, bare_node}
use Rattle.cpg_schema.specs.Properties.{number_of, text_of}
use Rattle.unit_rules.specs.Units.{global_name}

-- The META_DATA: NAME=`C`.
abbrev pub meta_data : PlainNode
meta_data = record (bare_node MetaData) { name = Some (codes "C") }

-- The FILE of a unit: its NAME is the FILENAME of the unit.
abbrev pub file_node : PlainGraph → ℕ → PlainNode
file_node graph unit = record (bare_node File) {
  name = option_and_then (text_of Filename) (slice_get graph.nodes unit);
}

-- The NAMESPACE_BLOCK: NAME=`<global>` and ORDER=1.
abbrev pub namespace_node : PlainNode
namespace_node = record (bare_node NamespaceBlock) { name = Some global_name; order = Some 1 }

-- The METHOD_PARAMETER_OUT of a parameter: NAME, LINE_NUMBER, ORDER and TYPE_FULL_NAME are the
-- parameter's.
abbrev pub out_node : PlainGraph → ℕ → PlainNode
out_node graph parameter = record (bare_node MethodParameterOut) {
  name = option_and_then (text_of Name) (slice_get graph.nodes parameter);
  line_number = option_and_then (number_of LineNumber) (slice_get graph.nodes parameter);
  order = option_and_then (number_of Order) (slice_get graph.nodes parameter);
  type_full_name = option_and_then (text_of TypeFullName) (slice_get graph.nodes parameter);
}
