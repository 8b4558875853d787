-- How many nodes are above one: the climb from a node to its root ends.
use Rattle.std.proofs.Common.{◌≡◌, ℕ, zero, suc, ◌<◌, ◌≤◌, ◌==◌, ◌&&◌, ◌||◌, Bool, true, false, if◌then◌else◌, List, [], ◌∷◌, Option, Some, None, inl, inr, length, get_or, refl, ap, sym, subst, ◌∙◌, arith, eqb, eqb-true, eq-eqb, ne_eqb}
use Rattle.std.specs.List.{list_any, IsDistinct, AllByRecursion}
use Rattle.std.proofs.lemmas.Bool.{and_parts}
use Rattle.std.proofs.lemmas.Option.{slice_get_within, get_or_from_slice_get}
use Rattle.std.proofs.lemmas.Map.Steps.{length-le_from_distinct_below}
use Rattle.std.proofs.lemmas.Map.Keys.{IsDistinct-cons}
use Rattle.cpg_schema.specs.declared.edge_kind.EdgeKind.{EdgeKind}
use Rattle.cpg_schema.specs.declared.edge_kind.EdgeKind.TheVariants.{Ast}
use Rattle.cpg_schema.specs.Names.{kind_rank}
use Rattle.cpg_schema.specs.Graph.{PlainEdge, PlainGraph}
use Rattle.cpg_schema.specs.Fitting.{IsGraph}
use Rattle.cpg_schema.specs.Shape.{IsAstEdgeAt, IsAbove, child as child_edge, descendant, IsShaped}
use Rattle.graph_parts.specs.Parts.{HasEdge, IsChild}
use Rattle.graph_parts.specs.NodesAbove.{parent_in, with_above, above_within, nodes_above}
use Rattle.graph_parts.specs.Standing.{IsRootOf}
use Rattle.graph_parts.proofs.KindRank.{kind_from_rank}
use Rattle.graph_parts.proofs.Tree.{child_at, edge_at, above_child, above_further, above_in, one_parent}

abbrev pub depth : PlainGraph → ℕ → ℕ
depth graph node = length (nodes_above graph node)

pub found : (edges : List PlainEdge) (node parent : ℕ) → parent_in edges node ≡ Some parent → (position : ℕ) × IsAstEdgeAt edges position parent node
found [] node parent is = cc
found (edge ∷ edges) node parent is = by ((kind_rank edge.kind == kind_rank Ast) && (edge.to == node)) refl is (found edges node parent)
  where
    by : (t : Bool) → ((kind_rank edge.kind == kind_rank Ast) && (edge.to == node)) ≡ t → (if t then Some edge.from else parent_in edges node) ≡ Some parent →
        (parent_in edges node ≡ Some parent → (position : ℕ) × IsAstEdgeAt edges position parent node) →
        (position : ℕ) × IsAstEdgeAt (edge ∷ edges) position parent node
    by true t is rest =
        let parts = and_parts (kind_rank edge.kind == kind_rank Ast) (edge.to == node) t in
        let from : edge.from ≡ parent = cc in
        (0, record { edge = edge; edge_is = refl; kind = kind_from_rank edge.kind Ast (eqb-true (kind_rank edge.kind) (kind_rank Ast) parts.0); from = from; to = eqb-true edge.to node parts.1 })
    by false t is rest =
        let there = rest is in
        let at = there.1 in
        (suc there.0, record { edge = at.edge; edge_is = at.edge_is; kind = at.kind; from = at.from; to = at.to })

pub missing : (edges : List PlainEdge) (node : ℕ) → parent_in edges node ≡ None → (position parent : ℕ) → ¬ IsAstEdgeAt edges position parent node
missing [] node is zero parent at = let none = at.edge_is in cc
missing [] node is (suc position) parent at = let none = at.edge_is in cc
missing (edge ∷ edges) node is position parent at = by ((kind_rank edge.kind == kind_rank Ast) && (edge.to == node)) refl is position at (missing edges node)
  where
    by : (t : Bool) → ((kind_rank edge.kind == kind_rank Ast) && (edge.to == node)) ≡ t → (if t then Some edge.from else parent_in edges node) ≡ None → (position : ℕ) → IsAstEdgeAt (edge ∷ edges) position parent node →
        (parent_in edges node ≡ None → (position parent : ℕ) → ¬ IsAstEdgeAt edges position parent node) → ⊥
    by true t is position at rest = cc
    by false t is zero at rest =
        let same : edge ≡ at.edge = let first = at.edge_is in cc in
        let kind : (kind_rank edge.kind == kind_rank Ast) ≡ true = eq-eqb (kind_rank edge.kind) (kind_rank Ast) (ap (λ (e : PlainEdge). kind_rank e.kind) same ∙ ap kind_rank at.kind) in
        let to : (edge.to == node) ≡ true = eq-eqb edge.to node (ap (λ (e : PlainEdge). e.to) same ∙ at.to) in
        let passes : ((kind_rank edge.kind == kind_rank Ast) && (edge.to == node)) ≡ true = rw (kind, to) refl in
        cc
    by false t is (suc position) at rest =
        let later : IsAstEdgeAt edges position parent node = record { edge = at.edge; edge_is = at.edge_is; kind = at.kind; from = at.from; to = at.to } in
        rest is position parent later

pub none_distinct : IsDistinct eqb []
unfolding IsDistinct
none_distinct = tt

all_apart : (p : ℕ) (xs : List ℕ) → ((q : ℕ) → list_any (eqb q) xs ≡ true → ¬ (p ≡ q)) → AllByRecursion (λ (y : ℕ). eqb p y ≡ false) xs
all_apart p [] h = tt
all_apart p (x ∷ xs) h =
    let here : (eqb x x || list_any (eqb x) xs) ≡ true = rw (eq-eqb x x refl) refl in
    (ne_eqb p x (h x here), all_apart p xs (λ q there. h q (later q there)))
  where
    either : (b c : Bool) → c ≡ true → (b || c) ≡ true
    either true c is = refl
    either false c is = is

    later : (q : ℕ) → list_any (eqb q) xs ≡ true → (eqb q x || list_any (eqb q) xs) ≡ true
    later q there = either (eqb q x) (list_any (eqb q) xs) there

module _ (graph : PlainGraph) (is_graph : IsGraph graph) where
  -- the ends of an edge are nodes
  pub record Ends (from to : ℕ) : Type 0 where
    pub from_low : from < length graph.nodes
    pub to_low : to < length graph.nodes

  pub ends_of : (kind : EdgeKind) (from to : ℕ) → HasEdge graph kind from to → Ends from to
  ends_of kind from to h =
      let low = slice_get_within graph.edges h.position h.edge h.edge_is in
      let among = is_graph.edges h.position h.edge low in
      let is = get_or_from_slice_get graph.edges h.position h.edge h.edge h.edge_is in
      let from_low : (get_or graph.edges h.position h.edge).from < length graph.nodes = slice_get_within graph.nodes _ among.from among.from_is in
      let to_low : (get_or graph.edges h.position h.edge).to < length graph.nodes = slice_get_within graph.nodes _ among.to among.to_is in
      record {
        from_low = subst (λ (k : ℕ). k < length graph.nodes) (ap (λ (e : PlainEdge). e.from) is ∙ h.from_is) from_low;
        to_low = subst (λ (k : ℕ). k < length graph.nodes) (ap (λ (e : PlainEdge). e.to) is ∙ h.to_is) to_low;
      }

  above_low : (ancestor node : ℕ) → IsAbove graph.edges ancestor node → ancestor < length graph.nodes
  above_low ancestor _ (child_edge position node at) = (ends_of Ast ancestor node (child_at graph position ancestor node at)).from_low
  above_low ancestor _ (descendant position parent node up at) = above_low ancestor parent up

module _ (graph : PlainGraph) (shaped : IsShaped graph) (is_graph : IsGraph graph) where
  pub parent_in_is : (parent node : ℕ) → IsChild graph parent node → parent_in graph.edges node ≡ Some parent
  parent_in_is parent node h = by (parent_in graph.edges node) refl
    where
      by : (o : Option ℕ) → parent_in graph.edges node ≡ o → o ≡ Some parent
      by None is = absurd (missing graph.edges node is h.position parent (edge_at graph parent node h))
      by (Some other) is = let there = found graph.edges node other is in ap Some (one_parent graph shaped other parent node (child_at graph there.0 other node there.1) h)

  above_ancestors : (fuel node q : ℕ) → list_any (eqb q) (above_within graph fuel node) ≡ true → IsAbove graph.edges q node
  above_ancestors zero node q there = cc
  above_ancestors (suc fuel) node q there = by (parent_in graph.edges node) refl there (λ p. above_ancestors fuel p q)
    where
      one : (p : ℕ) (t : Bool) → eqb q p ≡ t → (t || list_any (eqb q) (above_within graph fuel p)) ≡ true → IsChild graph p node →
          (list_any (eqb q) (above_within graph fuel p) ≡ true → IsAbove graph.edges q p) → IsAbove graph.edges q node
      one p true t there h up = subst (λ (k : ℕ). IsAbove graph.edges k node) (sym (eqb-true q p t)) (above_child graph p node h)
      one p false t there h up = above_further graph q p node (up there) h

      by : (o : Option ℕ) → parent_in graph.edges node ≡ o → list_any (eqb q) (with_above (above_within graph fuel) o) ≡ true →
          ((p : ℕ) → list_any (eqb q) (above_within graph fuel p) ≡ true → IsAbove graph.edges q p) → IsAbove graph.edges q node
      by None is there up = cc
      by (Some p) is there up = let at = found graph.edges node p is in one p (eqb q p) refl there (child_at graph at.0 p node at.1) (up p)

  distinct_ancestors : (fuel node : ℕ) → IsDistinct eqb (above_within graph fuel node)
  distinct_ancestors zero node = none_distinct
  distinct_ancestors (suc fuel) node = by (parent_in graph.edges node) (λ p. distinct_ancestors fuel p)
    where
      by : (o : Option ℕ) → ((p : ℕ) → IsDistinct eqb (above_within graph fuel p)) → IsDistinct eqb (with_above (above_within graph fuel) o)
      by None rest = none_distinct
      by (Some p) rest =
          IsDistinct-cons eqb p (above_within graph fuel p)
          (all_apart p (above_within graph fuel p) (λ q there same. shaped.no_cycle p (subst (λ (k : ℕ). IsAbove graph.edges k p) (sym same) (above_ancestors fuel p q there))))
          (rest p)

  pub few : (fuel node : ℕ) → length (above_within graph fuel node) ≤ length graph.nodes
  few fuel node =
      length-le_from_distinct_below (above_within graph fuel node) (length graph.nodes) (distinct_ancestors fuel node)
      (λ q there. above_low graph is_graph q node (above_ancestors fuel node q there))

  settled : (fuel node : ℕ) → length (above_within graph (suc fuel) node) ≤ fuel → length (above_within graph fuel node) ≡ length (above_within graph (suc fuel) node)
  settled zero node low = by (parent_in graph.edges node) low
    where
      by : (o : Option ℕ) → length (with_above (above_within graph 0) o) ≤ 0 → 0 ≡ length (with_above (above_within graph 0) o)
      by None low = refl
      by (Some p) low = absurd (omega arith)
  settled (suc fuel) node low = by (parent_in graph.edges node) low (λ p. settled fuel p)
    where
      by : (o : Option ℕ) → length (with_above (above_within graph (suc fuel)) o) ≤ suc fuel →
          ((p : ℕ) → length (above_within graph (suc fuel) p) ≤ fuel → length (above_within graph fuel p) ≡ length (above_within graph (suc fuel) p)) →
          length (with_above (above_within graph fuel) o) ≡ length (with_above (above_within graph (suc fuel)) o)
      by None low rest = refl
      by (Some p) low rest = ap suc (rest p (omega arith))

  -- one node more is above a child than above its parent
  pub depth_falls : (parent node : ℕ) → IsChild graph parent node → depth graph node ≡ suc (depth graph parent)
  depth_falls parent node h =
      let n = length graph.nodes in
      let one : with_above (above_within graph n) (parent_in graph.edges node) ≡ parent ∷ above_within graph n parent =
      ap (with_above (above_within graph n)) (parent_in_is parent node h) in
      settled n node (few (suc n) node) ∙ ap length one

  -- a node has a parent, or none
  pub data Parent (node : ℕ) : Type 0 where
    one : (parent : ℕ) → IsChild graph parent node → Parent node
    none : ((parent : ℕ) → ¬ IsChild graph parent node) → Parent node

  pub parent_of : (node : ℕ) → Parent node
  parent_of node = by (parent_in graph.edges node) refl
    where
      by : (o : Option ℕ) → parent_in graph.edges node ≡ o → Parent node
      by None is = none (λ parent h. missing graph.edges node is h.position parent (edge_at graph parent node h))
      by (Some parent) is = let at = found graph.edges node parent is in one parent (child_at graph at.0 parent node at.1)

  root_within : (fuel node : ℕ) → depth graph node < fuel → (root : ℕ) × IsRootOf graph node root
  root_within zero node low = absurd (omega arith)
  root_within (suc fuel) node low = by (parent_of node) (root_within fuel)
    where
      by : Parent node → ((p : ℕ) → depth graph p < fuel → (root : ℕ) × IsRootOf graph p root) → (root : ℕ) × IsRootOf graph node root
      by (none top) rest = (node, record { holds = inl refl; top = top })
      by (one parent h) rest =
          let falls = depth_falls parent node h in
          let up = rest parent (omega arith) in
          (up.0, record { holds = inr (above_in graph up.0 parent node up.1.holds h); top = up.1.top })

  -- each node has a root
  pub some_root : (node : ℕ) → (root : ℕ) × IsRootOf graph node root
  some_root node = root_within (suc (depth graph node)) node (omega arith)
