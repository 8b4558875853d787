-- What an index lends are the plain graph's edges of a node and a kind, in order.
use Rattle.std.proofs.Common.{◌≡◌, ℕ, ◌==◌, ◌&&◌, Bool, true, false, if◌then◌else◌, List, [], ◌∷◌, filter, map, refl, ap, sym, ◌∙◌}
use borrow.Author.Tests.{eqb-true}
use Rattle.std.specs.declared.cmp.Ordering.{Ordering}
use Rattle.std.specs.declared.cmp.Ordering.TheVariants.{Less, Equal, Greater}
use Rattle.std.specs.List.{All}
use Rattle.std.specs.Ordering.{nat_cmp, ordering_then, is_gt}
use Rattle.std.specs.Cmp.{nat_cmp_is}
use Rattle.std.specs.Cmp.Lexicographic.{slice_cmp}
use Rattle.std.proofs.lemmas.List.Elements.{filter_passes, All-head, All-tail, All-weaker}
use Rattle.std.proofs.lemmas.List.Sorted.{All-permutation}
use Rattle.cpg_schema.specs.declared.edge_kind.EdgeKind.{EdgeKind}
use Rattle.cpg_schema.specs.Names.{kind_rank}
use Rattle.cpg_schema.specs.Graph.{PlainEdge}
use Rattle.cpg_schema.specs.Order.{edge_cmp, insert_edge, in_order}
use Rattle.cpg_schema.proofs.InOrder.{in_order_permutation}
use Rattle.graph_store.specs.declared.edge.Edge.{Edge}
use Rattle.graph_store.specs.Stored.{StoredGraph, plain, plain_edge}
use Rattle.edge_index.specs.NodeEdges.{leads_from, leads_to, edges_from, edges_to}
use Rattle.edge_index.specs.Indexed.{Indexed, IsIndexOf, turned_edge, out_edges, into_edges}
use Rattle.edge_index.proofs.Cuts.{filter-map}
use Rattle.edge_index.proofs.FilteredOrder.{filter-in_order}

-- an edge with its ends changed over
abbrev turned : PlainEdge → PlainEdge
turned edge = record edge { from = edge.to; to = edge.from }

-- the edge leads from this node, and has the kind of this rank
abbrev HasStart : ℕ → ℕ → PlainEdge → Type 0
HasStart id rank edge = (edge.from ≡ id) × (kind_rank edge.kind ≡ rank)

both_true : (b c : Bool) → (b && c) ≡ true → (b ≡ true) × (c ≡ true)
both_true true c is = (refl, is)
both_true false c is = cc

has_start : (id : ℕ) (kind : EdgeKind) (edge : PlainEdge) → leads_from id kind edge ≡ true → HasStart id (kind_rank kind) edge
has_start id kind edge is =
    let both = both_true (edge.from == id) (kind_rank edge.kind == kind_rank kind) is in
    (eqb-true edge.from id both.0, eqb-true (kind_rank edge.kind) (kind_rank kind) both.1)

-- two edges of one node and kind compare by their other ends, and then by their variables: so they do when they are turned
same_cmp : (id rank : ℕ) (a b : PlainEdge) → HasStart id rank a → HasStart id rank b → edge_cmp a b ≡ edge_cmp (turned a) (turned b)
same_cmp id rank a b ha hb =
    let from : Equal ≡ nat_cmp a.from b.from = nat_cmp_is a.from b.from Equal (ha.0 ∙ sym hb.0) in
    let kind : Equal ≡ nat_cmp (kind_rank a.kind) (kind_rank b.kind) = nat_cmp_is (kind_rank a.kind) (kind_rank b.kind) Equal (ha.1 ∙ sym hb.1) in
    let to = nat_cmp a.to b.to in
    let variable = slice_cmp nat_cmp a.variable b.variable in
    let plain_way : edge_cmp a b ≡ ordering_then to variable =
    ap (λ (o : Ordering). ordering_then o (ordering_then (nat_cmp (kind_rank a.kind) (kind_rank b.kind)) (ordering_then to variable))) (sym from) ∙
    ap (λ (o : Ordering). ordering_then o (ordering_then to variable)) (sym kind) in
    let turned_way : edge_cmp (turned a) (turned b) ≡ ordering_then to variable =
    ap (λ (o : Ordering). ordering_then to (ordering_then o (ordering_then (nat_cmp a.from b.from) variable))) (sym kind) ∙
    ap (λ (o : Ordering). ordering_then to (ordering_then o variable)) (sym from) in
    plain_way ∙ sym turned_way

module _ (id rank : ℕ) where
  turn-insert_edge : (edge : PlainEdge) (edges : List PlainEdge) → HasStart id rank edge → All (HasStart id rank) edges →
      map turned (insert_edge edge edges) ≡ insert_edge (turned edge) (map turned edges)
  turn-insert_edge edge [] one all = refl
  turn-insert_edge edge (first ∷ rest) one all =
      by (is_gt (edge_cmp edge first)) (turn-insert_edge edge rest one (All-tail (HasStart id rank) first rest all)) ∙
      ap (λ (o : Ordering). if is_gt o then turned first ∷ insert_edge (turned edge) (map turned rest) else turned edge ∷ turned first ∷ map turned rest)
      (same_cmp id rank edge first one (All-head (HasStart id rank) first rest all))
    where
      by : (b : Bool) → map turned (insert_edge edge rest) ≡ insert_edge (turned edge) (map turned rest) →
          map turned (if b then first ∷ insert_edge edge rest else edge ∷ first ∷ rest)
          ≡ (if b then turned first ∷ insert_edge (turned edge) (map turned rest) else turned edge ∷ turned first ∷ map turned rest)
      by true inserted = ap (λ (es : List PlainEdge). turned first ∷ es) inserted
      by false inserted = refl

  -- edges of one node and kind that are put in order, and then turned
  turn-in_order : (edges : List PlainEdge) → All (HasStart id rank) edges → map turned (in_order edges) ≡ in_order (map turned edges)
  turn-in_order [] all = refl
  turn-in_order (edge ∷ edges) all =
      let rest = All-tail (HasStart id rank) edge edges all in
      turn-insert_edge edge (in_order edges) (All-head (HasStart id rank) edge edges all)
      (All-permutation (HasStart id rank) edges (in_order edges) (in_order_permutation edges) rest) ∙
      ap (insert_edge (turned edge)) (turn-in_order edges rest)

module _ (graph : StoredGraph) (index : Indexed) (h : IsIndexOf graph index) (id : ℕ) (kind : EdgeKind) where
  names : List (List ℕ)
  names = graph.names

  -- the edges that lead from the node
  pub lent_out : map (plain_edge graph.names) (out_edges index id kind) ≡ edges_from (plain graph) id kind
  lent_out =
      sym (filter-map (plain_edge graph.names) (leads_from id kind) index.leaving) ∙
      (ap (filter (leads_from id kind)) h.leaving.order ∙ filter-in_order (leads_from id kind) (map (plain_edge graph.names) graph.edges))

  turn_back : (edges : List Edge) → map turned (map (turned_edge graph.names) edges) ≡ map (plain_edge graph.names) edges
  turn_back [] = refl
  turn_back (edge ∷ edges) = ap (λ (es : List PlainEdge). plain_edge graph.names edge ∷ es) (turn_back edges)

  -- those that lead to it, turned, lead from it
  turned_into : map (turned_edge graph.names) (into_edges index id kind) ≡ in_order (filter (leads_from id kind) (map (turned_edge graph.names) graph.edges))
  turned_into =
      sym (filter-map (turned_edge graph.names) (leads_from id kind) index.arriving) ∙
      (ap (filter (leads_from id kind)) h.arriving.order ∙ filter-in_order (leads_from id kind) (map (turned_edge graph.names) graph.edges))

  pub lent_into : map (plain_edge graph.names) (into_edges index id kind) ≡ edges_to (plain graph) id kind
  lent_into =
      let turned_edges = filter (leads_from id kind) (map (turned_edge graph.names) graph.edges) in
      let starts = All-weaker (λ (e : PlainEdge). leads_from id kind e ≡ true) (HasStart id (kind_rank kind)) (has_start id kind) turned_edges
      (filter_passes (leads_from id kind) (map (turned_edge graph.names) graph.edges)) in
      let back : map turned turned_edges ≡ filter (leads_to id kind) (map (plain_edge graph.names) graph.edges) =
      ap (map turned) (filter-map (turned_edge graph.names) (leads_from id kind) graph.edges) ∙
      (turn_back (filter (λ (e : Edge). (e.to == id) && (kind_rank e.kind == kind_rank kind)) graph.edges) ∙
      sym (filter-map (plain_edge graph.names) (leads_to id kind) graph.edges)) in
      sym (turn_back (into_edges index id kind)) ∙
      (ap (map turned) turned_into ∙ (turn-in_order id (kind_rank kind) turned_edges starts ∙ ap in_order back))
