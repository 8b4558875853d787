-- The METHODs named `<global>` to which an AST edge leads are as many as the AST edges that lead to one.
use Rattle.std.proofs.Common.{◌≡◌, ℕ, zero, suc, ◌+◌, ◌<◌, ◌≤◌, ◌==◌, ◌&&◌, cond, Bool, true, false, List, [], ◌∷◌, Option, Some, None, filter, length, refl, ap, sym, ◌∙◌, arith, eqb, eqb-true, eq-eqb, ne_eqb}
use Rattle.std.specs.List.{range_with_len}
use Rattle.std.proofs.lemmas.Bool.{eqb-false}
use Rattle.cpg_schema.specs.declared.edge_kind.EdgeKind.TheVariants.{Ast}
use Rattle.cpg_schema.specs.Names.{kind_rank}
use Rattle.cpg_schema.specs.Graph.{PlainEdge, PlainGraph}
use Rattle.cpg_schema.specs.Fitting.{IsGraph}
use Rattle.cpg_schema.specs.Shape.{IsAstEdgeAt, IsShaped}
use Rattle.graph_parts.specs.NodesAbove.{parent_in}
use Rattle.graph_parts.proofs.Depth.{ends_of, found}
use Rattle.graph_parts.proofs.KindRank.{kind_from_rank}
use Rattle.graph_parts.proofs.Tree.{child_at}
use Rattle.unit_rules.specs.Units.{all_nodes, is_global, is_inner, is_missing, units}

step : (p : ℕ → Bool) (x : ℕ) (xs : List ℕ) (t : Bool) → p x ≡ t → length (filter p (x ∷ xs)) ≡ cond t (suc (length (filter p xs))) (length (filter p xs))
step p x xs true e = rw e refl
step p x xs false e = rw e refl

same_count : (p q : ℕ → Bool) → ((n : ℕ) → q n ≡ p n) → (xs : List ℕ) → length (filter p xs) ≡ length (filter q xs)
same_count p q same [] = refl
same_count p q same (x ∷ xs) = by (p x) refl (same_count p q same xs)
  where
    by : (t : Bool) → p x ≡ t → length (filter p xs) ≡ length (filter q xs) → length (filter p (x ∷ xs)) ≡ length (filter q (x ∷ xs))
    by true e rest = step p x xs true e ∙ (ap suc rest ∙ sym (step q x xs true (same x ∙ e)))
    by false e rest = step p x xs false e ∙ (rest ∙ sym (step q x xs false (same x ∙ e)))

-- No more pass than there are.
pub few_pass : (p : ℕ → Bool) (xs : List ℕ) → length (filter p xs) ≤ length xs
few_pass p [] = omega arith
few_pass p (x ∷ xs) = by (p x) refl (few_pass p xs)
  where
    by : (t : Bool) → p x ≡ t → length (filter p xs) ≤ length xs → length (filter p (x ∷ xs)) ≤ suc (length xs)
    by true e rest = let one = step p x xs true e in omega arith
    by false e rest = let one = step p x xs false e in omega arith

module _ (p q : ℕ → Bool) (one : ℕ) (same : (n : ℕ) → ¬ (n ≡ one) → q n ≡ p n) where
  past : (a m : ℕ) → one < a → length (filter p (range_with_len a m)) ≡ length (filter q (range_with_len a m))
  past a zero low = refl
  past a (suc m) low = by (p a) refl (past (a + 1) m (omega arith))
    where
      by : (t : Bool) → p a ≡ t → length (filter p (range_with_len (a + 1) m)) ≡ length (filter q (range_with_len (a + 1) m)) →
          length (filter p (range_with_len a (suc m))) ≡ length (filter q (range_with_len a (suc m)))
      by true e rest = step p a (range_with_len (a + 1) m) true e ∙ (ap suc rest ∙ sym (step q a (range_with_len (a + 1) m) true (same a (λ is. omega arith) ∙ e)))
      by false e rest = step p a (range_with_len (a + 1) m) false e ∙ (rest ∙ sym (step q a (range_with_len (a + 1) m) false (same a (λ is. omega arith) ∙ e)))

  fewer : p one ≡ true → q one ≡ false → (a m : ℕ) → a ≤ one → one < a + m → length (filter p (range_with_len a m)) ≡ suc (length (filter q (range_with_len a m)))
  fewer has lacks a zero low high = absurd (omega arith)
  fewer has lacks a (suc m) low high = by (eqb a one) refl (λ (h : a + 1 ≤ one). fewer has lacks (a + 1) m h (omega arith))
    where
      xs : List ℕ
      xs = range_with_len (a + 1) m

      there : (t : Bool) → p a ≡ t → ¬ (a ≡ one) → length (filter p xs) ≡ suc (length (filter q xs)) → length (filter p (a ∷ xs)) ≡ suc (length (filter q (a ∷ xs)))
      there true e other rest = step p a xs true e ∙ (ap suc rest ∙ ap suc (sym (step q a xs true (same a other ∙ e))))
      there false e other rest = step p a xs false e ∙ (rest ∙ ap suc (sym (step q a xs false (same a other ∙ e))))

      by : (t : Bool) → eqb a one ≡ t → (a + 1 ≤ one → length (filter p xs) ≡ suc (length (filter q xs))) → length (filter p (a ∷ xs)) ≡ suc (length (filter q (a ∷ xs)))
      by true e rest =
          let is : a ≡ one = eqb-true a one e in
          step p a xs true (ap p is ∙ has) ∙ (ap suc (past (a + 1) m (omega arith)) ∙ ap suc (sym (step q a xs false (ap q is ∙ lacks))))
      by false e rest = let other = eqb-false a one e in there (p a) refl other (rest (omega arith))

module _ (graph : PlainGraph) where
  abbrev missed : List PlainEdge → ℕ → Bool
  missed edges node = is_global graph node && is_missing (parent_in edges node)

  record AreApart (edges : List PlainEdge) : Type 0 where
    apart : (first second parent other node : ℕ) → IsAstEdgeAt edges first parent node → IsAstEdgeAt edges second other node → first ≡ second
    low : (position parent node : ℕ) → IsAstEdgeAt edges position parent node → node < length graph.nodes

  behind : (edge : PlainEdge) (edges : List PlainEdge) (position parent node : ℕ) → IsAstEdgeAt edges position parent node → IsAstEdgeAt (edge ∷ edges) (suc position) parent node
  behind edge edges position parent node at = record { edge = at.edge; edge_is = at.edge_is; kind = at.kind; from = at.from; to = at.to }

  rest_apart : (edge : PlainEdge) (edges : List PlainEdge) → AreApart (edge ∷ edges) → AreApart edges
  rest_apart edge edges h = record {
    apart = λ first second parent other node x y.
        let same = h.apart (suc first) (suc second) parent other node (behind edge edges first parent node x) (behind edge edges second other node y) in
        omega arith;
    low = λ position parent node x. h.low (suc position) parent node (behind edge edges position parent node x);
  }

  and_none : (b : Bool) → (b && false) ≡ false
  and_none true = refl
  and_none false = refl

  and_all : (b : Bool) → (b && true) ≡ b
  and_all true = refl
  and_all false = refl

  -- an edge that leads elsewhere
  elsewhere : (edge : PlainEdge) (edges : List PlainEdge) (n : ℕ) → ((kind_rank edge.kind == kind_rank Ast) && (edge.to == n)) ≡ false → missed (edge ∷ edges) n ≡ missed edges n
  elsewhere edge edges n e = rw e refl

  here : (edge : PlainEdge) (edges : List PlainEdge) (n : ℕ) → ((kind_rank edge.kind == kind_rank Ast) && (edge.to == n)) ≡ true → missed (edge ∷ edges) n ≡ false
  here edge edges n e = rw e (and_none (is_global graph n))

  leads : (edge : PlainEdge) (n : ℕ) (ast to : Bool) → (kind_rank edge.kind == kind_rank Ast) ≡ ast → (edge.to == n) ≡ to → ((kind_rank edge.kind == kind_rank Ast) && (edge.to == n)) ≡ (ast && to)
  leads edge n ast to k t = ap (λ (b : Bool). b && (edge.to == n)) k ∙ ap (λ (b : Bool). ast && b) t

  counted : (edges : List PlainEdge) → AreApart edges →
      length (filter (missed edges) (all_nodes graph)) + length (filter (is_inner graph) edges) ≡ length (filter (is_global graph) (all_nodes graph))
  counted [] h =
      let same = same_count (missed []) (is_global graph) (λ n. sym (and_all (is_global graph n))) (all_nodes graph) in
      omega arith
  counted (edge ∷ edges) h = by (kind_rank edge.kind == kind_rank Ast) refl (is_global graph edge.to) refl (counted edges (rest_apart edge edges h))
    where
      total : ℕ
      total = length (filter (is_global graph) (all_nodes graph))

      inner : (t : Bool) → is_inner graph edge ≡ t → length (filter (is_inner graph) (edge ∷ edges)) ≡ cond t (suc (length (filter (is_inner graph) edges))) (length (filter (is_inner graph) edges))
      inner true e = rw e refl
      inner false e = rw e refl

      is_in : (ast global : Bool) → (kind_rank edge.kind == kind_rank Ast) ≡ ast → is_global graph edge.to ≡ global → is_inner graph edge ≡ (ast && global)
      is_in ast global k g = ap (λ (b : Bool). b && is_global graph edge.to) k ∙ ap (λ (b : Bool). ast && b) g

      alone : (kind_rank edge.kind == kind_rank Ast) ≡ true → (o : Option ℕ) → parent_in edges edge.to ≡ o → o ≡ None
      alone k None is = refl
      alone k (Some parent) is =
          let there = found edges edge.to parent is in
          let first : IsAstEdgeAt (edge ∷ edges) 0 edge.from edge.to = record {
            edge = edge;
            edge_is = refl;
            kind = kind_from_rank edge.kind Ast (eqb-true (kind_rank edge.kind) (kind_rank Ast) k);
            from = refl;
            to = refl;
          } in
          let same = h.apart 0 (suc there.0) edge.from parent edge.to first (behind edge edges there.0 parent edge.to there.1) in
          absurd (omega arith)

      low : (kind_rank edge.kind == kind_rank Ast) ≡ true → edge.to < length graph.nodes
      low k =
          h.low 0 edge.from edge.to
          (record { edge = edge; edge_is = refl; kind = kind_from_rank edge.kind Ast (eqb-true (kind_rank edge.kind) (kind_rank Ast) k); from = refl; to = refl })

      by : (ast : Bool) → (kind_rank edge.kind == kind_rank Ast) ≡ ast → (global : Bool) → is_global graph edge.to ≡ global →
          length (filter (missed edges) (all_nodes graph)) + length (filter (is_inner graph) edges) ≡ length (filter (is_global graph) (all_nodes graph)) →
          length (filter (missed (edge ∷ edges)) (all_nodes graph)) + length (filter (is_inner graph) (edge ∷ edges)) ≡ length (filter (is_global graph) (all_nodes graph))
      by false k global g rest =
          let more = inner false (is_in false global k g) in
          let same = same_count (missed edges) (missed (edge ∷ edges)) (λ n. elsewhere edge edges n (leads edge n false (edge.to == n) k refl)) (all_nodes graph) in
          omega arith
      by true k false g rest =
          let more = inner false (is_in true false k g) in
          let same = same_count (missed edges) (missed (edge ∷ edges)) (λ n. at n (edge.to == n) refl) (all_nodes graph) in
          omega arith
        where
          at : (n : ℕ) (t : Bool) → (edge.to == n) ≡ t → missed (edge ∷ edges) n ≡ missed edges n
          at n true t =
              let is : edge.to ≡ n = eqb-true edge.to n t in
              let none : is_global graph n ≡ false = ap (is_global graph) (sym is) ∙ g in
              here edge edges n (leads edge n true true k t) ∙ sym (ap (λ (b : Bool). b && is_missing (parent_in edges n)) none)
          at n false t = elsewhere edge edges n (leads edge n true false k t)
      by true k true g rest =
          let more = inner true (is_in true true k g) in
          let none = alone k (parent_in edges edge.to) refl in
          let has : missed edges edge.to ≡ true = ap (λ (b : Bool). b && is_missing (parent_in edges edge.to)) g ∙ ap is_missing none in
          let lacks = here edge edges edge.to (leads edge edge.to true true k (eq-eqb edge.to edge.to refl)) in
          let inside = low k in
          let less =
          fewer (missed edges) (missed (edge ∷ edges)) edge.to
          (λ n other. elsewhere edge edges n (leads edge n true false k (ne_eqb edge.to n (λ is. other (sym is))))) has lacks 0 (length graph.nodes) (omega arith) (omega arith) in
          omega arith

  -- The units are the rest.
  pub units_counted : IsShaped graph → IsGraph graph → length (units graph) + length (filter (is_inner graph) graph.edges) ≡ length (filter (is_global graph) (all_nodes graph))
  units_counted shaped is_graph =
      counted graph.edges
      (record {
        apart = shaped.one_parent;
        low = λ position parent node at. (ends_of graph is_graph Ast parent node (child_at graph position parent node at)).to_low;
      })
