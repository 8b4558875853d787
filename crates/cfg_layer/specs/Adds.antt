-- What the control flow pass adds to a graph (ours): the CFG edges of each METHOD with a body.
use Rattle.std.specs.Prelude.{ℕ, ◌&&◌, not, Bool, List, [], Option, Some, None, map, slice_get}
use Rattle.cpg_schema.specs.declared.edge_kind.EdgeKind.TheVariants.{Cfg}
use Rattle.cpg_schema.specs.declared.end.End.TheVariants.{Old}
use Rattle.cpg_schema.specs.Deltas.{NewEdge, PlainDelta, empty_delta}
use Rattle.cpg_schema.specs.Graph.{PlainGraph}
use Rattle.cfg_layer.specs.Tested.{block_at, is_method, is_none, node_passes}
use Rattle.cfg_layer.specs.Planned.{all_nodes, flow_of}

-- A METHOD with a BLOCK; and all of them, in the order of their numbers.
abbrev pub has_body : PlainGraph → ℕ → Bool
has_body graph method = node_passes graph is_method method && not (is_none (block_at graph method))

unfoldable pub methods_of : PlainGraph → List ℕ
methods_of graph = all_nodes graph (has_body graph)

-- An edge along which control flows.
abbrev pub cfg_edge : ℕ × ℕ → NewEdge
cfg_edge edge = record { from = Old edge.0; kind = Cfg; to = Old edge.1; variable = [] }

-- What a function adds, and what a part adds: part k is that of the function k.
abbrev pub flow_delta : List (ℕ × ℕ) → PlainDelta
flow_delta edges = record { nodes = []; edges = map cfg_edge edges; settings = [] }

abbrev pub added_by : PlainGraph → Option ℕ → PlainDelta
added_by graph None = empty_delta
added_by graph (Some method) = flow_delta (flow_of graph method)

unfoldable pub part_delta : PlainGraph → ℕ → PlainDelta
part_delta graph part = added_by graph (slice_get (methods_of graph) part)
