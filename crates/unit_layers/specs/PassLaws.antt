-- What the pass adds fits, and makes a shaped graph.
use Rattle.std.specs.Prelude.{◌≡◌, Ok}
use Rattle.cpg_schema.specs.declared.caps.Caps.{Caps}
use Rattle.cpg_schema.specs.Graph.{PlainGraph}
use Rattle.cpg_schema.specs.Fitting.{IsGraph, PartsFit}
use Rattle.cpg_schema.specs.Sequence.{seq}
use Rattle.cpg_schema.specs.Shape.{IsShaped}
use Rattle.unit_rules.specs.UnitDeltas.{part_delta, unit_parts}
use Rattle.unit_rules.proofs.Fits.{units_fit}
use Rattle.unit_rules.proofs.Shapes.{units_shape}

pub parts_fit : (start : PlainGraph) → IsGraph start → IsShaped start →
    PartsFit start (part_delta start) (unit_parts start)
parts_fit start is_graph shaped = units_fit start shaped is_graph

pub parts_shape : (caps : Caps) (start graph : PlainGraph) → IsGraph start → IsShaped start →
    seq caps start (part_delta start) (unit_parts start) ≡ Ok graph → IsShaped graph
parts_shape caps start graph is_graph shaped is =
    units_shape start is_graph shaped caps graph is
