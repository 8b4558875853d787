-- Types that are gathered node by node (ours).
use Rattle.std.specs.Prelude.{ℕ, ◌≡◌, List, [], ◌∷◌, ◌++◌, flat_map, length, map}
use Rattle.std.specs.List.{range_with_len}
use Rattle.cpg_schema.specs.Graph.{PlainGraph}
use Rattle.type_layer.specs.declared.types.Types.{Types}
use Rattle.type_rules.specs.TypeDeltas.{node_edges, type_node}
use Rattle.type_rules.specs.Types.{each_once, types_at}

-- The types of the first so many nodes are gathered: their names, and what these nodes add.
pub record AreGathered (graph : PlainGraph) (count : ℕ) (types : Types) : Type 0 where
  pub names : types.names ≡ each_once (types_at graph (range_with_len 0 count))
  pub delta : types.delta ≡ record {
    nodes = map type_node types.names;
    edges = flat_map (node_edges graph) (range_with_len 0 count);
    settings = [];
  }

-- A type is added, and this is its number.
pub record AddsType (old new : Types) (name : List ℕ) (number : ℕ) : Type 0 where
  pub names : new.names ≡ old.names ++ name ∷ []
  pub delta : new.delta ≡ record old.delta { nodes = old.delta.nodes ++ type_node name ∷ [] }
  pub number_is : number ≡ length old.names
