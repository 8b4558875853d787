-- What the pass adds: for each source the forest of its file.
use Rattle.std.specs.Prelude.{ℕ, ◌≡◌, List, [], Option, Some, None, slice_get}
use Rattle.cpg_schema.specs.Graph.{PlainGraph, plain_graph}
use Rattle.cpg_schema.specs.Deltas.{PlainDelta}
use Rattle.graph_forest.specs.Forest.{Forest, none, planted}
use Rattle.ast_layer.specs.declared.source.Source.{Source}
use Rattle.ast_layer.specs.declared.pass.AstPass.{AstPass}
use Rattle.ast_layer.specs.Source.{file_of}
use Rattle.ast_layer.specs.Forests.{file_forest}

-- The graph has no nodes and no edges.
abbrev pub IsEmptyGraph : PlainGraph → Type 0
IsEmptyGraph graph = graph ≡ plain_graph [] []

-- The forest of a source, if there is one.
abbrev pub source_forest : Option Source → Forest
source_forest None = none
source_forest (Some source) = file_forest (file_of source) source.unit

-- What a part adds, which is the source at this position.
abbrev pub part_delta : List Source → ℕ → PlainDelta
part_delta sources part = planted (source_forest (slice_get sources part))

-- The sources of a pass, each of which is a part.
abbrev pub sources_of : AstPass → List Source
sources_of pass = pass.sources.items
