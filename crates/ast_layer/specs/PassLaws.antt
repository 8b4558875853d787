-- What each part adds fits, and makes a shaped graph.
use Rattle.std.specs.Prelude.{ℕ, ◌≡◌, ◌<◌, List, Option, Some, None, Ok, length, slice_get, refl}
use Rattle.std.proofs.Common.{sym, subst}
use Rattle.cpg_schema.specs.declared.caps.Caps.{Caps}
use Rattle.cpg_schema.specs.Graph.{PlainGraph}
use Rattle.cpg_schema.specs.Fitting.{Fits, IsGraph, PartsFit}
use Rattle.cpg_schema.specs.Sequence.{seq}
use Rattle.cpg_schema.specs.Shape.{IsShaped}
use Rattle.graph_forest.specs.Forest.{IsAllowed, IsPlanted}
use Rattle.graph_forest.proofs.Fitting.{planted_fits, planted_parts_fit}
use Rattle.graph_forest.proofs.Shaping.{all_stay_shaped, empty_shaped}
use Rattle.ast_layer.specs.declared.source.Source.{Source}
use Rattle.ast_layer.specs.Source.{file_of}
use Rattle.ast_layer.specs.Parts.{IsEmptyGraph, source_forest, part_delta}
use Rattle.ast_layer.specs.Allowed.{file_allowed}

source_allowed : (source : Option Source) → IsAllowed (source_forest source)
source_allowed None = tt
source_allowed (Some source) = file_allowed (file_of source) source.unit

pub part_planted : (sources : List Source) (part : ℕ) → IsPlanted (part_delta sources part)
part_planted sources part = record {
  forest = source_forest (slice_get sources part);
  allowed = source_allowed (slice_get sources part);
  is = refl;
}

-- A part fits every graph.
pub part_fits : (sources : List Source) (graph : PlainGraph) (part : ℕ) →
    Fits graph (part_delta sources part)
part_fits sources graph part =
    planted_fits graph (part_delta sources part) (part_planted sources part)

pub parts_fit : (sources : List Source) (start : PlainGraph) →
    PartsFit start (part_delta sources) (length sources)
parts_fit sources start =
    planted_parts_fit start (part_delta sources) (length sources)
    (λ part _. part_planted sources part)

pub parts_shape : (sources : List Source) (caps : Caps) (start graph : PlainGraph) →
    IsGraph start → IsEmptyGraph start →
    seq caps start (part_delta sources) (length sources) ≡ Ok graph → IsShaped graph
parts_shape sources caps start graph is_graph empty is =
    let parts : (part : ℕ) → part < length sources → IsPlanted (part_delta sources part) =
    λ part _. part_planted sources part in
    let shaped = subst IsShaped (sym empty) empty_shaped in
    all_stay_shaped caps start (part_delta sources) (length sources) parts is_graph shaped graph is
