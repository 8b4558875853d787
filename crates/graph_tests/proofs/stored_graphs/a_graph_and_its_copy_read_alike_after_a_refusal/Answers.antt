use Rattle.std.proofs.Common.{inr, ◌≡◌, List, [], ◌∷◌, Some, codes, refl, lit<, sym, subst}
use Rattle.std.proofs.lemmas.List.Elements.{All-nil, All-cons}
use Rattle.cpg_schema.specs.declared.label.Label.TheVariants.{File, NamespaceBlock}
use Rattle.cpg_schema.specs.declared.edge_kind.EdgeKind.TheVariants.{Ast}
use Rattle.cpg_schema.specs.declared.end.End.TheVariants.{Old}
use Rattle.cpg_schema.specs.Graph.{PlainNode, PlainEdge, PlainGraph, bare_node, plain_graph}
use Rattle.cpg_schema.specs.Deltas.{NewEdge, PlainDelta, added_edge}
use Rattle.cpg_schema.specs.Fitting.{IsOldEnd, IsEdgeAmong, Fits}
use Rattle.cpg_schema.proofs.Apart.{apart_none}
use Rattle.graph_store.specs.Stored.{plain}
use Rattle.graph_tests.proofs.stored_graphs.a_graph_and_its_copy_read_alike_after_a_refusal.Goals as goal

abbrev file : PlainNode
file = record (bare_node File) { name = Some (codes "a.c") }

abbrev block : PlainNode
block = record (bare_node NamespaceBlock) { name = Some (codes "<global>"); order = Some 1 }

abbrev edge : NewEdge
edge = record { from = Old 0; kind = Ast; to = Old 1; variable = [] }

abbrev more : PlainDelta
more = record {
  nodes = [];
  edges = edge ∷ [];
  settings = [];
}

-- A second edge between them fits.
more_fits : (edges : List PlainEdge) → Fits (plain_graph (file ∷ block ∷ []) edges) more
more_fits edges = record {
  old_from = All-cons (λ (e : NewEdge). IsOldEnd 2 e.from) edge [] (lit< tt) (All-nil _);
  old_to = All-cons (λ (e : NewEdge). IsOldEnd 2 e.to) edge [] (lit< tt) (All-nil _);
  allowed =
      All-cons (IsEdgeAmong (file ∷ block ∷ [])) (added_edge 2 edge) [] (record { from = file; from_is = refl; to = block; to_is = refl; allowed = refl; variable = inr refl }) (All-nil _);
  settings = All-nil _;
  apart = apart_none;
}

fits_by : (graph : PlainGraph) (delta : PlainDelta) → graph.nodes ≡ file ∷ block ∷ [] → delta ≡ more → Fits graph delta
fits_by graph delta e d =
    subst (Fits graph) (sym d) (subst (λ (n : List PlainNode). Fits (plain_graph n graph.edges) more) (sym e) (more_fits graph.edges))

pub apply-requires : goal.apply-requires
apply-requires g c =
    fits_by (plain c.in_ok-graph.graph) c.in_ok-more.more c.in_ok-graph.ensures c.in_ok-more.ensures
