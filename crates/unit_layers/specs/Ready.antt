-- What serves all parts of a graph, and how new nodes are planted in a row (ours).
use Rattle.std.specs.Prelude.{◌≡◌, List, []}
use Rattle.cpg_schema.specs.Graph.{PlainNode}
use Rattle.graph_store.specs.Stored.{StoredGraph, plain}
use Rattle.edge_index.specs.Indexed.{IsIndexOf}
use Rattle.graph_parts.specs.Places.{ArePlacesOf}
use Rattle.graph_forest.specs.Planting.{Planting}
use Rattle.unit_layers.specs.declared.ready.UnitsReady.{UnitsReady}
use Rattle.unit_layers.specs.Chains.{AreTreesOf}
use Rattle.unit_rules.specs.Units.{units}

-- The index, the places, the units and the trees are those of this graph.
pub record IsReady (graph : StoredGraph) (ready : UnitsReady) : Type 0 where
  pub index : IsIndexOf graph ready.index
  pub places : ArePlacesOf (plain graph) ready.places
  pub units : ready.units.items ≡ units (plain graph)
  pub trees : AreTreesOf (plain graph) ready.trees

-- These nodes were planted, each alone.
pub record IsRow (planting : Planting) (nodes : List PlainNode) : Type 0 where
  pub delta : planting.delta ≡ record { nodes = nodes; edges = []; settings = [] }
  pub opened : planting.opened ≡ []
