-- A method has a body exactly where a BLOCK is found among its children.
use Rattle.std.proofs.Common.{◌≡◌, ℕ, zero, suc, ◌<◌, ◌≤◌, ◌==◌, ◌&&◌, ◌||◌, Bool, true, false, nat_lt, List, [], ◌∷◌, Option, Some, None, slice_get, refl, ap, sym, ◌∙◌, arith, eqb-true, eq-eqb, ltb-true, ltb-false}
use Rattle.std.specs.List.{list_any}
use Rattle.std.specs.Option.{is_some}
use Rattle.std.proofs.lemmas.Bool.{and_parts}
use Rattle.cpg_schema.specs.declared.label.Label.TheVariants.{Block}
use Rattle.cpg_schema.specs.declared.edge_kind.EdgeKind.TheVariants.{Ast}
use Rattle.cpg_schema.specs.Names.{kind_rank}
use Rattle.cpg_schema.specs.Graph.{PlainEdge, PlainGraph}
use Rattle.cpg_schema.specs.Shape.{IsAstEdgeAt}
use Rattle.graph_parts.specs.Finds.{Finds, IsLeast}
use Rattle.graph_parts.specs.Parts.{HasLabel, IsChildOf, IsChildWith}
use Rattle.graph_parts.specs.NodesAbove.{is_labelled}
use Rattle.graph_parts.proofs.AboveList.{labelled_is, labelled_test}
use Rattle.graph_parts.proofs.KindRank.{kind_from_rank}
use Rattle.graph_parts.proofs.Tree.{child_at}
use Rattle.unit_rules.specs.UnitEdges.{has_body}

-- Where there is no least node with a property, none has it.
below : (P : ℕ → Type 0) → ((n : ℕ) → ¬ IsLeast P n) → (bound n : ℕ) → n < bound → ¬ P n
below P none zero n low has = omega arith
below P none (suc bound) n low has = none n (record { is = has; least = λ other there. by other there (nat_lt other n) refl (below P none bound other) })
  where
    by : (other : ℕ) → P other → (t : Bool) → nat_lt other n ≡ t → (other < bound → ¬ P other) → n ≤ other
    by other there true t rest = let less : other < n = ltb-true other n t in absurd (rest (omega arith) there)
    by other there false t rest = ltb-false other n t

pub none_least : (P : ℕ → Type 0) → ((n : ℕ) → ¬ IsLeast P n) → (n : ℕ) → ¬ P n
none_least P none n = below P none (suc n) n (omega arith)

module _ (graph : PlainGraph) (method : ℕ) where
  abbrev holds : PlainEdge → Bool
  holds edge = (kind_rank edge.kind == kind_rank Ast) && (edge.from == method) && is_labelled graph Block edge.to

  -- the edge at a position passes
  record Holds (edges : List PlainEdge) : Type 0 where
    position : ℕ
    child : ℕ
    at : IsAstEdgeAt edges position method child
    labelled : is_labelled graph Block child ≡ true

  held : (edges : List PlainEdge) → list_any holds edges ≡ true → Holds edges
  held [] is = cc
  held (edge ∷ edges) is = by (holds edge) refl is (held edges)
    where
      by : (t : Bool) → holds edge ≡ t → (t || list_any holds edges) ≡ true → (list_any holds edges ≡ true → Holds edges) → Holds (edge ∷ edges)
      by true e is rest =
          let parts = and_parts ((kind_rank edge.kind == kind_rank Ast) && (edge.from == method)) (is_labelled graph Block edge.to) e in
          let ends = and_parts (kind_rank edge.kind == kind_rank Ast) (edge.from == method) parts.0 in
          record {
            position = 0;
            child = edge.to;
            at = record {
              edge = edge;
              edge_is = refl;
              kind = kind_from_rank edge.kind Ast (eqb-true (kind_rank edge.kind) (kind_rank Ast) ends.0);
              from = eqb-true edge.from method ends.1;
              to = refl;
            };
            labelled = parts.1;
          }
      by false e is rest =
          let h = rest is in
          record {
            position = suc h.position;
            child = h.child;
            at = record { edge = h.at.edge; edge_is = h.at.edge_is; kind = h.at.kind; from = h.at.from; to = h.at.to };
            labelled = h.labelled;
          }

  either : (b c : Bool) → c ≡ true → (b || c) ≡ true
  either true c is = refl
  either false c is = is

  passes_at : (edges : List PlainEdge) (position : ℕ) (edge : PlainEdge) → slice_get edges position ≡ Some edge → holds edge ≡ true → list_any holds edges ≡ true
  passes_at [] position edge is test = cc
  passes_at (first ∷ edges) zero edge is test = let same : first ≡ edge = cc in let here : holds first ≡ true = ap holds same ∙ test in rw here refl
  passes_at (first ∷ edges) (suc position) edge is test = either (holds first) (list_any holds edges) (passes_at edges position edge is test)

  test_of : (edge : PlainEdge) → edge.kind ≡ Ast → edge.from ≡ method → is_labelled graph Block edge.to ≡ true → holds edge ≡ true
  test_of edge kind from labelled =
      let k : (kind_rank edge.kind == kind_rank Ast) ≡ true = eq-eqb (kind_rank edge.kind) (kind_rank Ast) (ap kind_rank kind) in
      let f : (edge.from == method) ≡ true = eq-eqb edge.from method from in
      rw (k, f, labelled) refl

  pub body_is : (found : Option ℕ) → Finds (IsChildOf graph Block method) found → is_some found ≡ has_body graph method
  body_is None none = by (has_body graph method) refl
    where
      by : (t : Bool) → has_body graph method ≡ t → false ≡ has_body graph method
      by true e =
          let h = held graph.edges e in
          absurd
          (none_least (IsChildWith graph (HasLabel Block) method) none h.child
          (record { is_child = child_at graph h.position method h.child h.at; is_node = labelled_is graph Block h.child h.labelled }))
      by false e = sym e
  body_is (Some child) least =
      let is = least.is.is_child in
      let labelled : is_labelled graph Block is.edge.to ≡ true = ap (is_labelled graph Block) is.to_is ∙ labelled_test graph Block child least.is.is_node in
      sym (passes_at graph.edges is.position is.edge is.edge_is (test_of is.edge is.kind_is is.from_is labelled))
