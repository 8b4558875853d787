-- What arrives at a node by an AST edge leaves its parent.
use Rattle.std.proofs.Common.{◌≡◌, ℕ, ◌<◌, Bool, true, false, List, Option, Some, None, length, get_or, refl, ap, sym, subst, ◌∙◌, arith, eqb, eqb-true, eq-eqb}
use Rattle.std.specs.Option.{is_some, option_eq}
use Rattle.std.specs.Prelude.{not}
use Rattle.cpg_schema.specs.declared.edge_kind.EdgeKind.TheVariants.{Ast}
use Rattle.cpg_schema.specs.Graph.{PlainGraph}
use Rattle.cpg_schema.specs.Shape.{IsShaped}
use Rattle.graph_store.specs.declared.edge.Edge.{Edge}
use Rattle.graph_store.specs.Stored.{StoredGraph, plain}
use Rattle.edge_index.specs.Indexed.{Indexed, IsIndexOf, into_edges}
use Rattle.edge_index.proofs.Counting.{no_edge}
use Rattle.graph_parts.specs.Finds.{Finds}
use Rattle.graph_parts.specs.Parts.{IsChild}
use Rattle.graph_parts.proofs.Tree.{one_parent}
use Rattle.graph_parts.proofs.Lent.{Lends, into_all, into_is}

module _ (graph : StoredGraph) (index : Indexed) (h : IsIndexOf graph index) (node : ℕ) (lent : List Edge) (is : lent ≡ into_edges index node Ast) where
  pub none_arrives : length lent < 1 → (parent : ℕ) → ¬ IsChild (plain graph) parent node
  none_arrives empty parent child =
      let found : Lends (into_edges index node Ast) (λ (e : Edge). e.from) parent = into_all graph index h node Ast parent child in
      let same = ap length is in
      let inside = found.inside in
      omega arith

  pub first_arrives : 0 < length lent → IsChild (plain graph) (get_or lent 0 no_edge).from node
  first_arrives some =
      let same = ap length is in
      let low : 0 < length (into_edges index node Ast) = omega arith in
      subst (λ (edges : List Edge). IsChild (plain graph) (get_or edges 0 no_edge).from node) (sym is) (into_is graph index h node Ast 0 no_edge low)

-- What is found to be the parent of a node is that node.
pub parent_is : (graph : PlainGraph) → IsShaped graph → (node call : ℕ) (found : Option ℕ) → Finds (λ (parent : ℕ). IsChild graph parent node) found → IsChild graph call node → found ≡ Some call
parent_is graph shaped node call None none is = absurd (none call is)
parent_is graph shaped node call (Some parent) has is = ap Some (one_parent graph shaped parent call node has is)

-- It is found exactly where the test of what was found says so.
pub found_same : (found : Option ℕ) (wanted : ℕ) → option_eq eqb found (Some wanted) ≡ true → found ≡ Some wanted
found_same None wanted is = cc
found_same (Some number) wanted is = ap Some (eqb-true number wanted is)

pub same_found : (found : Option ℕ) (wanted : ℕ) → found ≡ Some wanted → option_eq eqb found (Some wanted) ≡ true
same_found found wanted is = subst (λ (o : Option ℕ). option_eq eqb o (Some wanted) ≡ true) (sym is) (eq-eqb wanted wanted refl)

-- Nothing is found exactly where the test for nothing says so.
pub none_found : (P : ℕ → Type 0) (found : Option ℕ) (t : Bool) → is_some found ≡ not t → t ≡ true → Finds P found → (n : ℕ) → ¬ P n
none_found P None t is known lacks = lacks
none_found P (Some number) t is known has = let both : true ≡ not true = is ∙ ap not known in cc

pub some_found : (P : ℕ → Type 0) (found : Option ℕ) (t : Bool) → is_some found ≡ not t → t ≡ false → Finds P found → ((n : ℕ) → ¬ P n) → ⊥
some_found P None t is known has lacks = let both : false ≡ not false = is ∙ ap not known in cc
some_found P (Some number) t is known has lacks = lacks number has
