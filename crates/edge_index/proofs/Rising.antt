-- The edges of one node, in order, rise by their kinds.
use Rattle.std.proofs.Common.{◌≡◌, ℕ, ◌<◌, ◌≤◌, ◌==◌, Bool, true, false, nat_lt, List, length, map, get_or, refl, ap, sym, subst, ◌∙◌, arith}
use borrow.Author.Tests.{ltb-true, ltb-false, eqb-true}
use Rattle.std.specs.declared.cmp.Ordering.TheVariants.{Less, Equal}
use Rattle.std.specs.List.{All}
use Rattle.std.specs.List.Sorted.{IsNonDecreasingBy, IsSorted}
use Rattle.std.specs.declared.cmp.Ordering.{Ordering}
use Rattle.std.specs.Ordering.{nat_cmp, ordering_then, is_lt}
use Rattle.std.specs.Cmp.{nat_cmp_is}
use Rattle.std.specs.Cmp.Lexicographic.{slice_cmp}
use Rattle.std.proofs.lemmas.List.{length-map, get_or-map}
use Rattle.std.proofs.lemmas.List.Elements.{filter_passes, All-map, All-weaker}
use Rattle.std.proofs.lemmas.List.Sorted.{All-permutation}
use Rattle.cpg_schema.specs.Names.{kind_rank}
use Rattle.cpg_schema.specs.Graph.{PlainEdge}
use Rattle.cpg_schema.specs.Order.{edge_cmp, in_order}
use Rattle.cpg_schema.proofs.EdgeOrder.{edge_cmp_total}
use Rattle.cpg_schema.proofs.InOrder.{in_order_sorted, in_order_permutation}
use Rattle.cpg_schema.proofs.OneOrder.{ascends_from_sorted}
use Rattle.graph_store.specs.declared.edge.Edge.{Edge}
use Rattle.edge_index.specs.Rows.{edges_at, seen}

-- of two edges of one node, the second not less, the kinds rise
kinds_rise : (a b : PlainEdge) → a.from ≡ b.from → is_lt (edge_cmp b a) ≡ false → kind_rank a.kind ≤ kind_rank b.kind
kinds_rise a b same not_less = by (nat_lt (kind_rank b.kind) (kind_rank a.kind)) refl
  where
    by : (t : Bool) → nat_lt (kind_rank b.kind) (kind_rank a.kind) ≡ t → kind_rank a.kind ≤ kind_rank b.kind
    by true t =
        let l : Less ≡ nat_cmp (kind_rank b.kind) (kind_rank a.kind) = nat_cmp_is (kind_rank b.kind) (kind_rank a.kind) Less (ltb-true _ _ t) in
        let e : Equal ≡ nat_cmp b.from a.from = nat_cmp_is b.from a.from Equal (sym same) in
        let rest = ordering_then (nat_cmp b.to a.to) (slice_cmp nat_cmp b.variable a.variable) in
        let less : true ≡ is_lt (edge_cmp b a) =
        ap (λ (o : Ordering). is_lt (ordering_then o rest)) l ∙
        ap (λ (o : Ordering). is_lt (ordering_then o (ordering_then (nat_cmp (kind_rank b.kind) (kind_rank a.kind)) rest))) e in
        absurd (cc)
    by false t = ltb-false _ _ t

-- of two edges, the second not less, the nodes that they leave rise
nodes_rise : (a b : PlainEdge) → is_lt (edge_cmp b a) ≡ false → a.from ≤ b.from
nodes_rise a b not_less = by (nat_lt b.from a.from) refl
  where
    by : (t : Bool) → nat_lt b.from a.from ≡ t → a.from ≤ b.from
    by true t =
        let l : Less ≡ nat_cmp b.from a.from = nat_cmp_is b.from a.from Less (ltb-true _ _ t) in
        let rest = ordering_then (nat_cmp (kind_rank b.kind) (kind_rank a.kind)) (ordering_then (nat_cmp b.to a.to) (slice_cmp nat_cmp b.variable a.variable)) in
        let less : true ≡ is_lt (edge_cmp b a) = ap (λ (o : Ordering). is_lt (ordering_then o rest)) l in
        absurd (cc)
    by false t = ltb-false _ _ t

-- edges in order rise by the nodes that they leave
pub from_rises : (edges : List PlainEdge) → IsNonDecreasingBy (λ (e : PlainEdge). e.from) (in_order edges)
from_rises edges i j d le within = by (nat_lt i j) refl
  where
    by : (t : Bool) → nat_lt i j ≡ t → (get_or (in_order edges) i d).from ≤ (get_or (in_order edges) j d).from
    by true t =
        nodes_rise (get_or (in_order edges) i d) (get_or (in_order edges) j d)
        (ascends_from_sorted edge_cmp_total (in_order edges) (in_order_sorted edges) i j d (ltb-true i j t) within)
    by false t =
        let high : j ≤ i = ltb-false i j t in
        let is : i ≡ j = omega arith in
        subst (λ (n : ℕ). (get_or (in_order edges) i d).from ≤ (get_or (in_order edges) n d).from) is (omega arith)

-- the edges of a node in order rise by their kinds
pub row_kinds : (near far : Edge → ℕ) (names : List (List ℕ)) (k : ℕ) (edges row : List Edge) →
    map (seen near far names) row ≡ in_order (map (seen near far names) (edges_at near k edges)) → IsNonDecreasingBy (λ (e : Edge). kind_rank e.kind) row
row_kinds near far names k edges row order i j d le within = by (nat_lt i j) refl
  where
    key : Edge → PlainEdge
    key = seen near far names

    passes : All (λ (e : Edge). (near e == k) ≡ true) (edges_at near k edges)
    passes = filter_passes (λ (e : Edge). near e == k) edges

    at_node : All (λ (e : PlainEdge). e.from ≡ k) (map (seen near far names) (edges_at near k edges))
    at_node =
        All-map (λ (e : PlainEdge). e.from ≡ k) (seen near far names) (edges_at near k edges)
        (All-weaker (λ (e : Edge). (near e == k) ≡ true) (λ (e : Edge). near e ≡ k) (λ e is. eqb-true (near e) k is) (edges_at near k edges) passes)

    all_from : All (λ (e : PlainEdge). e.from ≡ k) (map (seen near far names) row)
    all_from =
        subst (All (λ (e : PlainEdge). e.from ≡ k)) (sym order)
        (All-permutation (λ (e : PlainEdge). e.from ≡ k) (map (seen near far names) (edges_at near k edges)) (in_order (map (seen near far names) (edges_at near k edges)))
        (in_order_permutation (map (seen near far names) (edges_at near k edges))) at_node)

    sorted : IsSorted edge_cmp (map (seen near far names) row)
    sorted = subst (IsSorted edge_cmp) (sym order) (in_order_sorted (map (seen near far names) (edges_at near k edges)))

    from_at : (n : ℕ) → n < length row → near (get_or row n d) ≡ k
    from_at n low =
        let size = length-map row (seen near far names) in
        let p = all_from n (seen near far names d) (omega arith) in
        ap (λ (e : PlainEdge). e.from) (sym (get_or-map (seen near far names) row n d (seen near far names d) low)) ∙ p

    by : (t : Bool) → nat_lt i j ≡ t → kind_rank (get_or row i d).kind ≤ kind_rank (get_or row j d).kind
    by true t =
        let less : i < j = ltb-true i j t in
        let size = length-map row (seen near far names) in
        let up = ascends_from_sorted edge_cmp_total (map (seen near far names) row) sorted i j (seen near far names d) less (omega arith) in
        let low : i < length row = omega arith in
        let not_less = rw (get_or-map (seen near far names) row i d (seen near far names d) low, get_or-map (seen near far names) row j d (seen near far names d) within) at up in
        kinds_rise (seen near far names (get_or row i d)) (seen near far names (get_or row j d)) (from_at i low ∙ sym (from_at j within)) not_less
    by false t =
        let high : j ≤ i = ltb-false i j t in
        let is : i ≡ j = omega arith in
        subst (λ (n : ℕ). kind_rank (get_or row i d).kind ≤ kind_rank (get_or row n d).kind) is (omega arith)
