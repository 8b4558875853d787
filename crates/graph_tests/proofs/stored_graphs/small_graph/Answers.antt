use Rattle.std.proofs.Common.{inr, ◌≡◌, List, [], ◌∷◌, Some, codes, refl, ap, sym, subst, ◌∙◌}
use Rattle.std.proofs.lemmas.List.Elements.{All-nil, All-cons}
use Rattle.cpg_schema.specs.declared.label.Label.TheVariants.{File, NamespaceBlock}
use Rattle.cpg_schema.specs.declared.key.Key.TheVariants.{Name}
use Rattle.cpg_schema.specs.declared.edge_kind.EdgeKind.TheVariants.{Ast}
use Rattle.cpg_schema.specs.declared.end.End.TheVariants.{New}
use Rattle.cpg_schema.specs.Graph.{PlainNode, PlainEdge, PlainGraph, bare_node, plain_graph}
use Rattle.cpg_schema.specs.Properties.{Property}
use Rattle.cpg_schema.specs.Deltas.{NewEdge, PlainDelta, added_edge, applied}
use Rattle.cpg_schema.specs.Fitting.{IsOldEnd, IsEdgeAmong, IsNewSetting, Fits}
use Rattle.cpg_schema.proofs.Apart.{apart_none, apart_one}
use Rattle.graph_store.specs.Stored.{plain}
use Rattle.graph_tests.proofs.stored_graphs.small_graph.Goals as goal

-- The file and the block, and the deltas that add and name them.
abbrev file : PlainNode
file = record (bare_node File) { name = Some (codes "a.c") }

abbrev block : PlainNode
block = record (bare_node NamespaceBlock) { order = Some 1 }

abbrev edge : NewEdge
edge = record { from = New 0; kind = Ast; to = New 1; variable = [] }

abbrev first : PlainDelta
first = record {
  nodes = file ∷ block ∷ [];
  edges = edge ∷ [];
  settings = [];
}

abbrev second : PlainDelta
second = record {
  nodes = [];
  edges = [];
  settings = record { node = 1; key = Name; value = Property.text (codes "<global>") } ∷ [];
}

-- They fit.
first_fits : (edges : List PlainEdge) → Fits (plain_graph [] edges) first
first_fits edges = record {
  old_from = All-cons (λ (e : NewEdge). IsOldEnd 0 e.from) edge [] tt (All-nil _);
  old_to = All-cons (λ (e : NewEdge). IsOldEnd 0 e.to) edge [] tt (All-nil _);
  allowed =
      All-cons (IsEdgeAmong (file ∷ block ∷ [])) (added_edge 0 edge) [] (record { from = file; from_is = refl; to = block; to_is = refl; allowed = refl; variable = inr refl }) (All-nil _);
  settings = All-nil _;
  apart = apart_none;
}

second_fits : (edges : List PlainEdge) → Fits (plain_graph (file ∷ block ∷ []) edges) second
second_fits edges = record {
  old_from = All-nil _;
  old_to = All-nil _;
  allowed = All-nil _;
  settings =
      All-cons (IsNewSetting (file ∷ block ∷ [])) (record { node = 1; key = Name; value = Property.text (codes "<global>") }) []
      (record { node = block; node_is = refl; lacks = (refl, refl); form = refl }) (All-nil _);
  apart = apart_one _;
}

-- A delta that fits a graph of these nodes fits each that has them.
fits_by : (graph : PlainGraph) (nodes : List PlainNode) (said delta : PlainDelta) → graph.nodes ≡ nodes → delta ≡ said →
    Fits (plain_graph nodes graph.edges) said → Fits graph delta
fits_by graph nodes said delta e d fits =
    subst (Fits graph) (sym d) (subst (λ (n : List PlainNode). Fits (plain_graph n graph.edges) said) (sym e) fits)

-- The nodes after the first.
nodes_after : (graph : PlainGraph) (delta : PlainDelta) → graph.nodes ≡ [] → delta ≡ first → (applied graph delta).nodes ≡ file ∷ block ∷ []
nodes_after graph delta e d =
    ap (λ (x : PlainDelta). (applied graph x).nodes) d ∙
    ap (λ (n : List PlainNode). (applied (plain_graph n graph.edges) first).nodes) e

pub apply-requires : goal.apply-requires
apply-requires c =
    fits_by (plain c.in_ok-graph.graph) [] first c.in_ok-first.first c.in_ok-graph.ensures c.in_ok-first.ensures
    (first_fits (plain c.in_ok-graph.graph).edges)

pub apply-requires-2 : goal.apply-requires-2
apply-requires-2 c =
    let nodes =
    ap (λ (graph : PlainGraph). graph.nodes) c.in_ok-apply.ensures.ok.is ∙
    nodes_after (plain c.in_ok-graph.graph) c.in_ok-first.first c.in_ok-graph.ensures c.in_ok-first.ensures in
    fits_by (plain c.apply.new.graph) (file ∷ block ∷ []) second c.in_ok-name.name nodes c.in_ok-name.ensures
    (second_fits (plain c.apply.new.graph).edges)
