-- The types of a graph (ours): which nodes have one, and the name of each type once.
use Rattle.std.specs.Prelude.{ℕ, ◌+◌, not, List, [], ◌∷◌, Option, None, filter, flat_map}
use Rattle.std.specs.Prelude.{if◌then◌else◌, slice_get}
use Rattle.std.specs.Option.{option_and_then, option_to_list}
use Rattle.std.specs.Str.{bytes_eq}
use Rattle.cpg_schema.specs.declared.label.Label.TheVariants.{TypeNode}
use Rattle.cpg_schema.specs.declared.edge_kind.EdgeKind.TheVariants.{EvalType}
use Rattle.cpg_schema.specs.Graph.{PlainNode, PlainGraph}
use Rattle.cpg_schema.specs.Schema.{allows}
use Rattle.unit_rules.specs.Units.{all_nodes}

-- The type of a node: its TYPE_FULL_NAME, where the schema lets an EVAL_TYPE leave its label.
abbrev pub type_of : PlainNode → Option (List ℕ)
type_of node = if allows EvalType node.label TypeNode then node.type_full_name else None

-- The type of the node of this number.
abbrev pub type_at : PlainGraph → ℕ → Option (List ℕ)
type_at graph node = option_and_then type_of (slice_get graph.nodes node)

-- The types that some nodes have, in the order of the nodes.
abbrev pub types_at : PlainGraph → List ℕ → List (List ℕ)
types_at graph nodes = flat_map (λ node. option_to_list (type_at graph node)) nodes

-- Some names, each once, in the order in which they come first.
abbrev pub each_once : List (List ℕ) → List (List ℕ)
each_once [] = []
each_once (first ∷ rest) = first ∷ filter (λ name. not (bytes_eq name first)) (each_once rest)

-- The names of the types, each once, in the order of the first nodes that have them.
abbrev pub type_names : PlainGraph → List (List ℕ)
type_names graph = each_once (types_at graph (all_nodes graph))

-- The position of one of some names.
abbrev pub position_of : List (List ℕ) → List ℕ → ℕ
position_of [] name = 0
position_of (first ∷ rest) name =
    if bytes_eq first name then 0 else position_of rest name + 1
