-- What an index lends are the edges of the plain graph: each is one, none is left out, and they rise.
use Rattle.std.proofs.Common.{◌≡◌, ℕ, zero, suc, ◌<◌, ◌≤◌, ◌==◌, ◌&&◌, cond, Bool, true, false, nat_lt, List, [], ◌∷◌, Option, Some, None, filter, length, map, get_or, slice_get, refl, ap, sym, subst, ◌∙◌, arith, eqb-true, eq-eqb, ltb-true, ltb-false}
use Rattle.std.specs.Prelude.{option_map}
use Rattle.std.specs.declared.cmp.Ordering.{Ordering}
use Rattle.std.specs.declared.cmp.Ordering.TheVariants.{Less, Equal}
use Rattle.std.specs.List.{Contains}
use Rattle.std.specs.List.Sorted.{IsNonDecreasingBy, IsSorted}
use Rattle.std.specs.Ordering.{nat_cmp, ordering_then, is_lt}
use Rattle.std.specs.Cmp.{nat_cmp_is}
use Rattle.std.specs.Cmp.Lexicographic.{slice_cmp}
use Rattle.std.proofs.lemmas.Bool.{and_parts}
use Rattle.std.proofs.lemmas.List.{length-map, get_or-map, get_or_default}
use Rattle.std.proofs.lemmas.List.Elements.{All-filter, All-contains_itself, filter_passes, Contains-append_right}
use Rattle.std.proofs.lemmas.List.Sorted.{All-permutation, Contains-permutation}
use Rattle.std.proofs.lemmas.Option.{slice_get-map, slice_get-get_or, slice_get_within, get_or_from_slice_get}
use Rattle.cpg_schema.specs.declared.edge_kind.EdgeKind.{EdgeKind}
use Rattle.cpg_schema.specs.Names.{kind_rank}
use Rattle.cpg_schema.specs.Graph.{PlainEdge}
use Rattle.cpg_schema.specs.Order.{edge_cmp}
use Rattle.cpg_schema.proofs.EdgeOrder.{edge_cmp_total}
use Rattle.cpg_schema.proofs.InOrder.{in_order_sorted}
use Rattle.cpg_schema.proofs.OneOrder.{ascends_from_sorted}
use Rattle.graph_store.specs.declared.edge.Edge.{Edge}
use Rattle.graph_store.specs.Stored.{StoredGraph, plain, plain_edge}
use Rattle.edge_index.specs.NodeEdges.{leads_from}
use Rattle.edge_index.specs.Indexed.{Indexed, IsIndexOf, out_edges, into_edges}
use Rattle.edge_index.proofs.LentEdges.{lent_out}
use Rattle.graph_parts.specs.Parts.{HasEdge}
use Rattle.graph_parts.proofs.KindRank.{kind_from_rank}

-- what passes a test is among those that do
contains_filter : (test : Edge → Bool) (edges : List Edge) (edge : Edge) → Contains edges edge → test edge ≡ true → Contains (filter test edges) edge
contains_filter test [] edge there passes = let low : there.0 < 0 = there.1 in absurd (omega arith)
contains_filter test (x ∷ xs) edge there passes = at there.0 there.1 there.2 (contains_filter test xs edge)
  where
    by : (t : Bool) → Contains (filter test xs) edge → Contains (cond t (x ∷ filter test xs) (filter test xs)) edge
    by true h = Contains-append_right (x ∷ []) (filter test xs) edge h
    by false h = h

    at : (k : ℕ) → k < length (x ∷ xs) → get_or (x ∷ xs) k edge ≡ edge → (Contains xs edge → test edge ≡ true → Contains (filter test xs) edge) → Contains (filter test (x ∷ xs)) edge
    at zero low is rest = let t : test x ≡ true = ap test is ∙ passes in let here : Contains (x ∷ filter test xs) edge = (0, omega arith, is) in rw t here
    at (suc k) low is rest = by (test x) (rest (k, omega arith, is) passes)

-- some edge of a list has this far end
pub record Lends (edges : List Edge) (far : Edge → ℕ) (node : ℕ) : Type 0 where
  pub position : ℕ
  pub inside : position < length edges
  pub far_is : (d : Edge) → far (get_or edges position d) ≡ node

lends : (edges : List Edge) (far : Edge → ℕ) (node : ℕ) (edge : Edge) → Contains edges edge → far edge ≡ node → Lends edges far node
lends edges far node edge there is = record {
  position = there.0;
  inside = there.1;
  far_is = λ d. ap far (get_or_default edges there.0 d edge there.1 ∙ there.2) ∙ is;
}

-- an edge that is kept
record Kept (graph : StoredGraph) (kind : EdgeKind) (from to : ℕ) : Type 0 where
  edge : Edge
  there : Contains graph.edges edge
  kind_is : edge.kind ≡ kind
  from_is : edge.from ≡ from
  to_is : edge.to ≡ to

module _ (graph : StoredGraph) where
  -- is one of the plain graph, and each edge of the plain graph is such
  edge_of : (kind : EdgeKind) (edge : Edge) → Contains graph.edges edge → kind_rank edge.kind ≡ kind_rank kind → HasEdge (plain graph) kind edge.from edge.to
  edge_of kind edge there same = record {
    position = there.0;
    edge = plain_edge graph.names edge;
    edge_is =
        slice_get-map (plain_edge graph.names) graph.edges there.0 ∙
        ap (option_map (plain_edge graph.names)) (slice_get-get_or graph.edges there.0 edge there.1 ∙ ap Some there.2);
    kind_is = kind_from_rank edge.kind kind same;
    from_is = refl;
    to_is = refl;
  }

  kept_of : (kind : EdgeKind) (from to : ℕ) → HasEdge (plain graph) kind from to → Kept graph kind from to
  kept_of kind from to h =
      by (slice_get graph.edges h.position) refl (sym (slice_get-map (plain_edge graph.names) graph.edges h.position) ∙ h.edge_is)
    where
      by : (found : Option Edge) → slice_get graph.edges h.position ≡ found → option_map (plain_edge graph.names) found ≡ Some h.edge → Kept graph kind from to
      by None at is = cc
      by (Some edge) at is =
          let same : plain_edge graph.names edge ≡ h.edge = cc in
          record {
            edge = edge;
            there = (h.position, slice_get_within graph.edges h.position edge at, get_or_from_slice_get graph.edges h.position edge edge at);
            kind_is = ap (λ (e : PlainEdge). e.kind) same ∙ h.kind_is;
            from_is = ap (λ (e : PlainEdge). e.from) same ∙ h.from_is;
            to_is = ap (λ (e : PlainEdge). e.to) same ∙ h.to_is;
          }

module _ (graph : StoredGraph) (index : Indexed) (h : IsIndexOf graph index) (id : ℕ) (kind : EdgeKind) where
  leaves : Edge → Bool
  leaves edge = (edge.from == id) && (kind_rank edge.kind == kind_rank kind)

  arrives : Edge → Bool
  arrives edge = (edge.to == id) && (kind_rank edge.kind == kind_rank kind)

  leads : (k : ℕ) (d : Edge) → k < length (out_edges index id kind) →
      ((get_or (out_edges index id kind) k d).from ≡ id) × (kind_rank (get_or (out_edges index id kind) k d).kind ≡ kind_rank kind)
  unfolding leaves
  leads k d low =
      let edge = get_or (out_edges index id kind) k d in
      let passes = and_parts (edge.from == id) (kind_rank edge.kind == kind_rank kind) (filter_passes leaves index.leaving k d low) in
      (eqb-true edge.from id passes.0, eqb-true (kind_rank edge.kind) (kind_rank kind) passes.1)

  -- what leaves the node
  pub out_is : (k : ℕ) (d : Edge) → k < length (out_edges index id kind) → HasEdge (plain graph) kind id (get_or (out_edges index id kind) k d).to
  unfolding leaves
  out_is k d low =
      let edge = get_or (out_edges index id kind) k d in
      let own = All-permutation (Contains graph.edges) graph.edges index.leaving h.leaving.same (All-contains_itself graph.edges) in
      let there : Contains graph.edges edge = All-filter leaves (Contains graph.edges) index.leaving own k d low in
      let led = leads k d low in
      subst (λ (n : ℕ). HasEdge (plain graph) kind n edge.to) led.0 (edge_of graph kind edge there led.1)

  pub out_all : (to : ℕ) → HasEdge (plain graph) kind id to → Lends (out_edges index id kind) (λ (e : Edge). e.to) to
  unfolding leaves
  out_all to is =
      let kept = kept_of graph kind id to is in
      let there = Contains-permutation graph.edges index.leaving kept.edge h.leaving.same kept.there in
      let from : (kept.edge.from == id) ≡ true = eq-eqb kept.edge.from id kept.from_is in
      let same : (kind_rank kept.edge.kind == kind_rank kind) ≡ true = eq-eqb (kind_rank kept.edge.kind) (kind_rank kind) (ap kind_rank kept.kind_is) in
      let passes : leaves kept.edge ≡ true = rw (from, same) refl in
      lends (out_edges index id kind) (λ (e : Edge). e.to) to kept.edge (contains_filter leaves index.leaving kept.edge there passes) kept.to_is

  -- what arrives at it
  pub into_is : (k : ℕ) (d : Edge) → k < length (into_edges index id kind) → HasEdge (plain graph) kind (get_or (into_edges index id kind) k d).from id
  unfolding arrives
  into_is k d low =
      let edge = get_or (into_edges index id kind) k d in
      let own = All-permutation (Contains graph.edges) graph.edges index.arriving h.arriving.same (All-contains_itself graph.edges) in
      let there : Contains graph.edges edge = All-filter arrives (Contains graph.edges) index.arriving own k d low in
      let passes = and_parts (edge.to == id) (kind_rank edge.kind == kind_rank kind) (filter_passes arrives index.arriving k d low) in
      let to : edge.to ≡ id = eqb-true edge.to id passes.0 in
      subst (λ (n : ℕ). HasEdge (plain graph) kind edge.from n) to (edge_of graph kind edge there (eqb-true (kind_rank edge.kind) (kind_rank kind) passes.1))

  pub into_all : (from : ℕ) → HasEdge (plain graph) kind from id → Lends (into_edges index id kind) (λ (e : Edge). e.from) from
  unfolding arrives
  into_all from is =
      let kept = kept_of graph kind from id is in
      let there = Contains-permutation graph.edges index.arriving kept.edge h.arriving.same kept.there in
      let to : (kept.edge.to == id) ≡ true = eq-eqb kept.edge.to id kept.to_is in
      let same : (kind_rank kept.edge.kind == kind_rank kind) ≡ true = eq-eqb (kind_rank kept.edge.kind) (kind_rank kind) (ap kind_rank kept.kind_is) in
      let passes : arrives kept.edge ≡ true = rw (to, same) refl in
      lends (into_edges index id kind) (λ (e : Edge). e.from) from kept.edge (contains_filter arrives index.arriving kept.edge there passes) kept.from_is

-- of two edges of one node and kind, the second not less, the ends rise
ends_rise : (a b : PlainEdge) → a.from ≡ b.from → kind_rank a.kind ≡ kind_rank b.kind → is_lt (edge_cmp b a) ≡ false → a.to ≤ b.to
ends_rise a b from kind not_less = by (nat_lt b.to a.to) refl
  where
    by : (t : Bool) → nat_lt b.to a.to ≡ t → a.to ≤ b.to
    by true t =
        let l : Less ≡ nat_cmp b.to a.to = nat_cmp_is b.to a.to Less (ltb-true _ _ t) in
        let e : Equal ≡ nat_cmp b.from a.from = nat_cmp_is b.from a.from Equal (sym from) in
        let k : Equal ≡ nat_cmp (kind_rank b.kind) (kind_rank a.kind) = nat_cmp_is (kind_rank b.kind) (kind_rank a.kind) Equal (sym kind) in
        let rest = slice_cmp nat_cmp b.variable a.variable in
        let less : true ≡ is_lt (edge_cmp b a) =
        ap (λ (o : Ordering). is_lt (ordering_then o rest)) l ∙
        (ap (λ (o : Ordering). is_lt (ordering_then o (ordering_then (nat_cmp b.to a.to) rest))) k ∙
        ap (λ (o : Ordering). is_lt (ordering_then o (ordering_then (nat_cmp (kind_rank b.kind) (kind_rank a.kind)) (ordering_then (nat_cmp b.to a.to) rest)))) e) in
        absurd (cc)
    by false t = ltb-false _ _ t

module _ (graph : StoredGraph) (index : Indexed) (h : IsIndexOf graph index) (id : ℕ) (kind : EdgeKind) where
  -- of two edges that leave the node, the later has no lower end
  later_end : (i j : ℕ) (d : Edge) → i < j → j < length (out_edges index id kind) → (get_or (out_edges index id kind) i d).to ≤ (get_or (out_edges index id kind) j d).to
  later_end i j d lt low =
      let show = plain_edge graph.names in
      let edges = out_edges index id kind in
      let sorted : IsSorted edge_cmp (map show edges) = subst (IsSorted edge_cmp) (sym (lent_out graph index h id kind)) (in_order_sorted (filter (leads_from id kind) (plain graph).edges)) in
      let ascends = ascends_from_sorted edge_cmp_total (map show edges) sorted i j (show d) lt (rw (length-map edges show) low) in
      let at_i = leads graph index h id kind i d (omega arith) in
      let at_j = leads graph index h id kind j d low in
      let low_i : i < length edges = omega arith in
      let shown_i = get_or-map show edges i d (show d) low_i in
      let shown_j = get_or-map show edges j d (show d) low in
      let not_less =
      subst (λ (e : PlainEdge). is_lt (edge_cmp e (show (get_or edges i d))) ≡ false) shown_j
      (subst (λ (e : PlainEdge). is_lt (edge_cmp (get_or (map show edges) j (show d)) e) ≡ false) shown_i ascends) in
      ends_rise (show (get_or edges i d)) (show (get_or edges j d)) (at_i.0 ∙ sym at_j.0) (at_i.1 ∙ sym at_j.1) not_less

  pub out_rises : IsNonDecreasingBy (λ (e : Edge). e.to) (out_edges index id kind)
  out_rises i j d le low = by (nat_lt i j) refl
    where
      by : (t : Bool) → nat_lt i j ≡ t → (get_or (out_edges index id kind) i d).to ≤ (get_or (out_edges index id kind) j d).to
      by true t = later_end i j d (ltb-true i j t) low
      by false t =
          let high : j ≤ i = ltb-false i j t in
          let is : i ≡ j = omega arith in
          let same : (get_or (out_edges index id kind) i d).to ≡ (get_or (out_edges index id kind) j d).to = ap (λ (k : ℕ). (get_or (out_edges index id kind) k d).to) is in
          omega arith
