-- What an index lends of the edges of a kind that leave a node; and the first of them whose end has a property leads to the least node that has it.
use Rattle.std.proofs.Common.{◌≡◌, ℕ, ◌+◌, ◌<◌, ◌≤◌, Bool, true, false, nat_lt, List, length, get_or, refl, ap, sym, subst, arith, ltb-true, ltb-false}
use Rattle.std.specs.List.Sorted.{IsNonDecreasingBy}
use Rattle.std.proofs.lemmas.List.{get_or_default}
use Rattle.cpg_schema.specs.declared.edge_kind.EdgeKind.{EdgeKind}
use Rattle.cpg_schema.specs.Fitting.{IsGraph}
use Rattle.graph_store.specs.declared.edge.Edge.{Edge}
use Rattle.graph_store.specs.Stored.{StoredGraph, plain}
use Rattle.edge_index.specs.Indexed.{Indexed, IsIndexOf, out_edges}
use Rattle.edge_index.proofs.Counting.{no_edge}
use Rattle.graph_parts.specs.Finds.{IsLeast}
use Rattle.graph_parts.specs.Parts.{HasEdge}
use Rattle.graph_parts.proofs.Depth.{ends_of}
use Rattle.graph_parts.proofs.Lent.{Lends, out_all, out_is, out_rises}

-- None of the first edges leads to a node with the property.
pub record NoneLeads (P : ℕ → Type 0) (edges : List Edge) (count : ℕ) : Type 0 where
  pub none : (k : ℕ) (d : Edge) → k < count → ¬ P (get_or edges k d).to

pub none_first : (P : ℕ → Type 0) (edges : List Edge) → NoneLeads P edges 0
none_first P edges = record { none = λ k d low. absurd (omega arith) }

pub none_next : (P : ℕ → Type 0) (edges : List Edge) (count : ℕ) → NoneLeads P edges count → count < length edges → ¬ P (get_or edges count no_edge).to → NoneLeads P edges (count + 1)
none_next P edges count h inside not = record { none = λ k d low. by k d low (nat_lt k count) refl }
  where
    by : (k : ℕ) (d : Edge) → k < count + 1 → (t : Bool) → nat_lt k count ≡ t → ¬ P (get_or edges k d).to
    by k d low true t = h.none k d (ltb-true k count t)
    by k d low false t =
        let high : count ≤ k = ltb-false k count t in
        let same : count ≡ k = omega arith in
        let here : ¬ P (get_or edges count d).to = subst (λ (e : Edge). ¬ P e.to) (get_or_default edges count no_edge d inside) not in
        subst (λ (n : ℕ). ¬ P (get_or edges n d).to) same here

module _ (graph : StoredGraph) (index : Indexed) (h : IsIndexOf graph index) (id : ℕ) (kind : EdgeKind) (lent : List Edge) (is : lent ≡ out_edges index id kind) where
  pub lent_is : (k : ℕ) (d : Edge) → k < length lent → HasEdge (plain graph) kind id (get_or lent k d).to
  lent_is k d low =
      let same = ap length is in
      let inside : k < length (out_edges index id kind) = omega arith in
      subst (λ (edges : List Edge). HasEdge (plain graph) kind id (get_or edges k d).to) (sym is) (out_is graph index h id kind k d inside)

  pub lent_low : IsGraph (plain graph) → (k : ℕ) (d : Edge) → k < length lent → (get_or lent k d).to < length graph.nodes
  lent_low is_graph k d low = (ends_of (plain graph) is_graph kind id (get_or lent k d).to (lent_is k d low)).to_low

  pub lent_all : (to : ℕ) → HasEdge (plain graph) kind id to → Lends lent (λ (e : Edge). e.to) to
  lent_all to has = subst (λ (edges : List Edge). Lends edges (λ (e : Edge). e.to) to) (sym is) (out_all graph index h id kind to has)

  lent_rises : IsNonDecreasingBy (λ (e : Edge). e.to) lent
  lent_rises = subst (λ (edges : List Edge). IsNonDecreasingBy (λ (e : Edge). e.to) edges) (sym is) (out_rises graph index h id kind)

  module _ (P : ℕ → Type 0) (leads : (n : ℕ) → P n → HasEdge (plain graph) kind id n) where
    pub first_least : (i : ℕ) (d : Edge) → i < length lent → NoneLeads P lent i → P (get_or lent i d).to → IsLeast P (get_or lent i d).to
    first_least i d low none has = record { is = has; least = λ other there. least other there (lent_all other (leads other there)) }
      where
        least : (other : ℕ) → P other → Lends lent (λ (e : Edge). e.to) other → (get_or lent i d).to ≤ other
        least other there found = by (nat_lt found.position i) refl
          where
            by : (t : Bool) → nat_lt found.position i ≡ t → (get_or lent i d).to ≤ other
            by true t = absurd (none.none found.position d (ltb-true found.position i t) (subst P (sym (found.far_is d)) there))
            by false t = subst (λ (n : ℕ). (get_or lent i d).to ≤ n) (found.far_is d) (lent_rises i found.position d (ltb-false found.position i t) found.inside)

    pub none_least : (count : ℕ) → NoneLeads P lent count → length lent ≤ count → (n : ℕ) → ¬ IsLeast P n
    none_least count none all n least =
        let found = lent_all n (leads n least.is) in
        let inside = found.inside in
        none.none found.position no_edge (omega arith) (subst P (sym (found.far_is no_edge)) least.is)
