-- The plain node that is to be planted, and its properties one by one.
use Rattle.std.specs.Prelude.{ℕ, List, Option, Some, None}
use Rattle.std.specs.Option.{option_copied}
use Rattle.cpg_schema.specs.declared.end.End.TheVariants.{New}
use Rattle.cpg_schema.specs.declared.key.Key.{Key}
use Rattle.cpg_schema.specs.Graph.{PlainNode}
use Rattle.cpg_schema.specs.Properties.{Property}
use Rattle.cpg_schema.specs.Deltas.{PlainDelta, set_at}
use Rattle.graph_forest.specs.declared.new_node.NewNode.{NewNode}

-- The node that contracts see.
abbrev pub plain_node : NewNode → PlainNode
plain_node node = record {
  label = node.label;
  name = option_copied node.name;
  code = option_copied node.code;
  filename = option_copied node.filename;
  line_number = node.line_number;
  order = node.order;
  argument_index = node.argument_index;
  type_full_name = option_copied node.type_full_name;
  control_structure_type = option_copied node.control_structure_type;
  linkage = option_copied node.linkage;
}

-- The delta with a text of this key, if there is one, at its new node at this position.
abbrev pub text_at : ℕ → Key → Option (List ℕ) → PlainDelta → PlainDelta
text_at position key None delta = delta
text_at position key (Some value) delta = set_at (New position) key (Property.text value) delta

-- The delta with a number likewise.
abbrev pub number_at : ℕ → Key → Option ℕ → PlainDelta → PlainDelta
number_at position key None delta = delta
number_at position key (Some value) delta = set_at (New position) key (Property.number value) delta
