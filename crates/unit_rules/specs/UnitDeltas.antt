-- The delta of each part (ours): part 0 adds the META_DATA, and part k + 1 what unit k adds.
use Rattle.std.specs.Prelude.{ℕ, zero, suc, ◌+◌, List, [], ◌∷◌, ◌++◌, flat_map, length, map}
use Rattle.std.specs.Prelude.{slice_index}
use Rattle.cpg_schema.specs.declared.label.Label.TheVariants.{MethodParameterIn}
use Rattle.cpg_schema.specs.Graph.{PlainGraph}
use Rattle.cpg_schema.specs.Deltas.{PlainDelta}
use Rattle.unit_rules.specs.Units.{labelled, members, units}
use Rattle.unit_rules.specs.UnitNodes.{file_node, meta_data, namespace_node, out_node}
use Rattle.unit_rules.specs.UnitEdges.{linked, member_edges, top_edges}

-- The parameters of a unit: the METHOD_PARAMETER_INs among its nodes, rising.
abbrev pub parameters : PlainGraph → ℕ → List ℕ
parameters graph unit = labelled graph MethodParameterIn (members graph unit)

-- A unit adds its FILE, its NAMESPACE_BLOCK, and a METHOD_PARAMETER_OUT a parameter.
abbrev pub unit_delta : PlainGraph → ℕ → PlainDelta
unit_delta graph unit = record {
  nodes = file_node graph unit ∷ namespace_node ∷ map (out_node graph) (parameters graph unit);
  edges =
      top_edges unit
      ++ (flat_map (member_edges graph) (members graph unit)
      ++ linked graph 2 (parameters graph unit));
  settings = [];
}

-- How many parts there are.
abbrev pub unit_parts : PlainGraph → ℕ
unit_parts graph = length (units graph) + 1

-- What a part adds.
abbrev pub part_delta : PlainGraph → ℕ → PlainDelta
part_delta graph zero = record { nodes = meta_data ∷ []; edges = []; settings = [] }
part_delta graph (suc k) = unit_delta graph (slice_index (units graph) k)
