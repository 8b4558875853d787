-- The edges that leave each node, one node after another and one kind after another, are all edges in order.
use Rattle.std.proofs.Common.{◌≡◌, ℕ, zero, suc, ◌+◌, ◌<◌, ◌==◌, ◌&&◌, List, [], ◌∷◌, ◌++◌, filter, length, map, get_or, refl, ap, sym, subst, ◌∙◌, arith}
use Rattle.std.specs.List.{All, flat_map, range_with_len}
use Rattle.std.specs.List.Sorted.{IsNonDecreasingBy}
use Rattle.std.proofs.lemmas.List.{append-nil, append_assoc, length-map, get_or-map}
use Rattle.std.proofs.lemmas.List.Sorted.{All-permutation}
use Rattle.cpg_schema.specs.declared.edge_kind.EdgeKind.{EdgeKind}
use Rattle.cpg_schema.specs.declared.edge_kind.EdgeKind.TheVariants as edge_kind
use Rattle.cpg_schema.specs.Names.{kind_rank}
use Rattle.cpg_schema.specs.Graph.{PlainEdge}
use Rattle.cpg_schema.specs.Order.{in_order}
use Rattle.graph_store.specs.declared.edge.Edge.{Edge}
use Rattle.graph_store.specs.Stored.{StoredGraph, IsStored, plain, plain_edge}
use Rattle.edge_index.specs.Indexed.{Indexed, IsIndexOf, node_edges, all_edges}
use Rattle.edge_index.specs.Rows.{edges_at}
use Rattle.edge_index.proofs.Cuts.{at_key, grouped_by, grouped_by_same, filter-filter, filter-map}
use Rattle.edge_index.proofs.Ends.{from_within}
use Rattle.edge_index.proofs.FilteredOrder.{filter-in_order}
use Rattle.edge_index.proofs.Rising.{from_rises, row_kinds}

module _ {A : Type 0} (f : ℕ → List A) where
  -- one number more
  flat_map_more : (first n : ℕ) → flat_map f (range_with_len first (suc n)) ≡ flat_map f (range_with_len first n) ++ f (first + n)
  flat_map_more first zero =
      let same : first ≡ first + 0 = omega arith in
      append-nil (f first) ∙ ap f same
  flat_map_more first (suc n) =
      let same : first + 1 + n ≡ first + suc n = omega arith in
      ap (λ (ys : List A). f first ++ ys) (flat_map_more (first + 1) n ∙ ap (λ (k : ℕ). flat_map f (range_with_len (first + 1) n) ++ f k) same) ∙
      sym (append_assoc (f first) (flat_map f (range_with_len (first + 1) n)) (f (first + suc n)))

-- lists of equal parts
flat_map_same : {A : Type 0} (f g : ℕ → List A) → ((n : ℕ) → f n ≡ g n) → (ns : List ℕ) → flat_map f ns ≡ flat_map g ns
flat_map_same f g same [] = refl
flat_map_same {A} f g same (n ∷ ns) =
    ap (λ (ys : List A). ys ++ flat_map f ns) (same n) ∙ ap (λ (ys : List A). g n ++ ys) (flat_map_same f g same ns)

module _ {X : Type 0} (key : X → ℕ) (xs : List X) where
  -- the items by their keys, as one list for each key
  grouped_by-flat_map : (n : ℕ) → grouped_by key n xs ≡ flat_map (λ (k : ℕ). at_key key k xs) (range_with_len 0 n)
  unfolding grouped_by
  grouped_by-flat_map zero = refl
  grouped_by-flat_map (suc n) =
      let same : n ≡ 0 + n = omega arith in
      ap (λ (ys : List X). ys ++ at_key key n xs) (grouped_by-flat_map n) ∙
      (ap (λ (k : ℕ). flat_map (λ (k : ℕ). at_key key k xs) (range_with_len 0 n) ++ at_key key k xs) same ∙
      sym (flat_map_more (λ (k : ℕ). at_key key k xs) 0 n))

  -- where keys rise below n, that is the list itself
  rising_parts : (n : ℕ) → IsNonDecreasingBy key xs → All (λ (x : X). key x < n) xs → flat_map (λ (k : ℕ). at_key key k xs) (range_with_len 0 n) ≡ xs
  rising_parts n up below = sym (grouped_by-flat_map n) ∙ grouped_by_same key n xs up below

-- there are eleven kinds
rank_below : (kind : EdgeKind) → kind_rank kind < 11
rank_below edge_kind.Ast = omega arith
rank_below edge_kind.Condition = omega arith
rank_below edge_kind.Argument = omega arith
rank_below edge_kind.SourceFile = omega arith
rank_below edge_kind.Contains = omega arith
rank_below edge_kind.ParameterLink = omega arith
rank_below edge_kind.EvalType = omega arith
rank_below edge_kind.Ref = omega arith
rank_below edge_kind.Call = omega arith
rank_below edge_kind.Cfg = omega arith
rank_below edge_kind.ReachingDef = omega arith

module _ (graph : StoredGraph) (index : Indexed) (stored : IsStored graph) (h : IsIndexOf graph index) where
  -- the edges rise by the nodes that they leave
  leaving_rises : IsNonDecreasingBy (λ (e : Edge). e.from) index.leaving
  leaving_rises i j d le low =
      let size = length-map index.leaving (plain_edge graph.names) in
      let up = subst (IsNonDecreasingBy (λ (e : PlainEdge). e.from)) (sym h.leaving.order) (from_rises (map (plain_edge graph.names) graph.edges))
      i j (plain_edge graph.names d) le (omega arith) in
      let low_too : i < length index.leaving = omega arith in
      rw (
        get_or-map (plain_edge graph.names) index.leaving i d (plain_edge graph.names d) low_too,
        get_or-map (plain_edge graph.names) index.leaving j d (plain_edge graph.names d) low,
      ) at up

  -- and these are nodes
  leaving_within : All (λ (e : Edge). e.from < index.node_count) index.leaving
  leaving_within =
      subst (λ (n : ℕ). All (λ (e : Edge). e.from < n) index.leaving) (sym h.count)
      (All-permutation (λ (e : Edge). e.from < length graph.nodes) graph.edges index.leaving h.leaving.same
      (from_within graph.names graph.nodes graph.edges stored.is_graph.edges))

  -- the edges of a node rise by their kinds
  module _ (id : ℕ) where
    row_order : map (plain_edge graph.names) (at_key (λ (e : Edge). e.from) id index.leaving)
        ≡ in_order (map (plain_edge graph.names) (edges_at (λ (e : Edge). e.from) id graph.edges))
    row_order =
        let p = λ (e : PlainEdge). e.from == id in
        sym (filter-map (plain_edge graph.names) p index.leaving) ∙
        (ap (filter p) h.leaving.order ∙
        (filter-in_order p (map (plain_edge graph.names) graph.edges) ∙
        ap in_order (filter-map (plain_edge graph.names) p graph.edges)))

    row_rises : IsNonDecreasingBy (λ (e : Edge). kind_rank e.kind) (at_key (λ (e : Edge). e.from) id index.leaving)
    row_rises =
        row_kinds (λ (e : Edge). e.from) (λ (e : Edge). e.to) graph.names id graph.edges (at_key (λ (e : Edge). e.from) id index.leaving) row_order

    -- so they are the edges of one kind after another
    of_rank : (rank : ℕ) → at_key (λ (e : Edge). kind_rank e.kind) rank (at_key (λ (e : Edge). e.from) id index.leaving)
        ≡ filter (λ e. (e.from == id) && (kind_rank e.kind == rank)) index.leaving
    of_rank rank = filter-filter (λ (e : Edge). e.from == id) (λ (e : Edge). kind_rank e.kind == rank) index.leaving

    node_edges_same : node_edges index id ≡ at_key (λ (e : Edge). e.from) id index.leaving
    node_edges_same =
        let row = at_key (λ (e : Edge). e.from) id index.leaving in
        let by_rank = λ (rank : ℕ). filter (λ (e : Edge). (e.from == id) && (kind_rank e.kind == rank)) index.leaving in
        let each : flat_map by_rank (range_with_len 0 11) ≡ row =
        sym (flat_map_same (λ (rank : ℕ). at_key (λ (e : Edge). kind_rank e.kind) rank row) by_rank of_rank (range_with_len 0 11)) ∙
        rising_parts (λ (e : Edge). kind_rank e.kind) row 11 row_rises (λ k d low. rank_below (get_or row k d).kind) in
        each

  pub all_edges_are : all_edges index ≡ index.leaving
  all_edges_are =
      flat_map_same (node_edges index) (λ (id : ℕ). at_key (λ (e : Edge). e.from) id index.leaving) node_edges_same (range_with_len 0 index.node_count) ∙
      rising_parts (λ (e : Edge). e.from) index.leaving index.node_count leaving_rises leaving_within

pub all_edges_same : (graph : StoredGraph) (index : Indexed) → IsStored graph → IsIndexOf graph index → all_edges index ≡ index.leaving
all_edges_same graph index stored h = all_edges_are graph index stored h

pub all_edges_printed : (graph : StoredGraph) (index : Indexed) → IsStored graph → IsIndexOf graph index →
    map (plain_edge graph.names) (all_edges index) ≡ in_order (plain graph).edges
all_edges_printed graph index stored h =
    ap (map (plain_edge graph.names)) (all_edges_are graph index stored h) ∙ h.leaving.order
