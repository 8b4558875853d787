-- What the types add (ours): a TYPE each, and an EVAL_TYPE from each node that has one.
use Rattle.std.specs.Prelude.{ℕ, List, [], ◌∷◌, Option, Some, None, flat_map, map}
use Rattle.cpg_schema.specs.declared.label.Label.TheVariants.{TypeNode}
use Rattle.cpg_schema.specs.declared.edge_kind.EdgeKind.TheVariants.{EvalType}
use Rattle.cpg_schema.specs.declared.end.End.TheVariants.{Old, New}
use Rattle.cpg_schema.specs.Graph.{PlainNode, PlainGraph, bare_node}
use Rattle.cpg_schema.specs.Deltas.{NewEdge, PlainDelta}
use Rattle.unit_rules.specs.Units.{all_nodes}
use Rattle.unit_rules.specs.UnitEdges.{edge_between}
use Rattle.type_rules.specs.Types.{position_of, type_at, type_names}

-- The TYPE of a name: it has NAME alone.
abbrev pub type_node : List ℕ → PlainNode
type_node name = record (bare_node TypeNode) { name = Some name }

-- An EVAL_TYPE leads from a node that has a type to its TYPE. Those of these names are the new
-- nodes, in their order.
abbrev pub eval_edges : List (List ℕ) → ℕ → Option (List ℕ) → List NewEdge
eval_edges names node None = []
eval_edges names node (Some name) =
    edge_between (Old node) EvalType (New (position_of names name)) ∷ []

-- The edges of a node.
abbrev pub node_edges : PlainGraph → ℕ → List NewEdge
node_edges graph node = eval_edges (type_names graph) node (type_at graph node)

-- What all of them add.
abbrev pub type_delta : PlainGraph → PlainDelta
type_delta graph = record {
  nodes = map type_node (type_names graph);
  edges = flat_map (node_edges graph) (all_nodes graph);
  settings = [];
}

-- There is one part, which adds it.
abbrev pub type_parts : ℕ
type_parts = 1

abbrev pub part_delta : PlainGraph → ℕ → PlainDelta
part_delta graph part = type_delta graph
