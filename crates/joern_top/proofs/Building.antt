-- The first pass over one source builds that source's graph.
use Rattle.std.proofs.Common.{◌≡◌, ℕ, List, [], ◌∷◌, length, Some, ◌∙◌, ap}
use Rattle.cpg_schema.specs.declared.caps.Caps.{Caps}
use Rattle.cpg_schema.specs.Sequence.{seq}
use Rattle.graph_store.specs.Stored.{StoredGraph, plain}
use Rattle.ast_layer.specs.declared.source.Source.{Source}
use Rattle.ast_layer.specs.Parts.{IsEmptyGraph, source_forest, part_delta}
use Rattle.joern_top.specs.Graph.{graph_caps, built_alone}

-- The graph without nodes and edges.
abbrev pub empty_graph : StoredGraph
empty_graph = record { nodes = []; edges = []; names = [] ∷ []; caps = graph_caps }

pub is_empty : (graph : StoredGraph) → graph ≡ empty_graph → IsEmptyGraph (plain graph)
is_empty graph is = ap (λ (g : StoredGraph). plain g) is

-- What the pass makes of the empty graph.
pub built_by_pass : (source : Source) (sources : List Source) (graph : StoredGraph) → sources ≡ source ∷ [] → graph ≡ empty_graph →
    seq graph.caps (plain graph) (part_delta sources) (length sources) ≡ built_alone (source_forest (Some source))
built_by_pass source sources graph one empty =
    ap (λ (sources : List Source). seq graph.caps (plain graph) (part_delta sources) (length sources)) one
    ∙ ap (λ (g : StoredGraph). seq g.caps (plain g) (part_delta (source ∷ [])) (length (source ∷ []))) empty
