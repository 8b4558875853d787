-- What the pass adds fits, and makes a shaped graph.
use Rattle.std.specs.Prelude.{◌≡◌, Ok}
use Rattle.cpg_schema.specs.declared.caps.Caps.{Caps}
use Rattle.cpg_schema.specs.Graph.{PlainGraph}
use Rattle.cpg_schema.specs.Fitting.{PartsFit}
use Rattle.cpg_schema.specs.Sequence.{seq}
use Rattle.cpg_schema.specs.Shape.{IsShaped}
use Rattle.type_rules.specs.TypeDeltas.{part_delta, type_parts}
use Rattle.type_rules.proofs.Fits.{types_fit, types_shape}

pub parts_fit : (start : PlainGraph) → PartsFit start (part_delta start) type_parts
parts_fit start = types_fit start

pub parts_shape : (caps : Caps) (start graph : PlainGraph) → IsShaped start →
    seq caps start (part_delta start) type_parts ≡ Ok graph → IsShaped graph
parts_shape caps start graph shaped is = types_shape start caps graph shaped is
