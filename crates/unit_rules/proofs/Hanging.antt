-- Edges that are added one by one and keep AST edges a forest.
use Rattle.std.proofs.Common.{◌≡◌, ℕ, zero, suc, ◌⊎◌, inl, inr, List, [], ◌∷◌, ◌++◌, length, refl, ap, sym, subst, ◌∙◌, arith, append-nil, append_assoc}
use Rattle.std.specs.List.{All}
use Rattle.std.proofs.lemmas.List.Elements.{All-head, All-tail}
use Rattle.cpg_schema.specs.declared.edge_kind.EdgeKind.TheVariants.{Ast}
use Rattle.cpg_schema.specs.Graph.{PlainNode, PlainEdge, PlainGraph}
use Rattle.cpg_schema.specs.Shape.{IsAstEdgeAt, IsAbove, child as child_of, descendant, IsShaped}

-- Each node has at most one AST edge to it, and none is above itself.
pub record IsForest (edges : List PlainEdge) : Type 0 where
  pub one_parent : (first second parent other node : ℕ) → IsAstEdgeAt edges first parent node → IsAstEdgeAt edges second other node → first ≡ second
  pub no_cycle : (node : ℕ) → ¬ IsAbove edges node node

pub forest_of : (graph : PlainGraph) → IsShaped graph → IsForest graph.edges
forest_of graph h = record { one_parent = h.one_parent; no_cycle = h.no_cycle }

pub shaped_of : (nodes : List PlainNode) (edges : List PlainEdge) → IsForest edges → IsShaped (record { nodes = nodes; edges = edges })
shaped_of nodes edges h = record { one_parent = h.one_parent; no_cycle = h.no_cycle }

-- No AST edge leads to the node; none leads to it or from it.
pub record IsTop (edges : List PlainEdge) (node : ℕ) : Type 0 where
  pub none : (position parent : ℕ) → ¬ IsAstEdgeAt edges position parent node

pub record IsBare (edges : List PlainEdge) (node : ℕ) : Type 0 where
  pub top : IsTop edges node
  pub low : (position child : ℕ) → ¬ IsAstEdgeAt edges position node child

-- An AST edge of a list with one edge more is one of the list, or that one.
pub data Last (edges : List PlainEdge) (edge : PlainEdge) (position parent child : ℕ) : Type 0 where
  before : IsAstEdgeAt edges position parent child → Last edges edge position parent child
  here : position ≡ length edges → edge.kind ≡ Ast → edge.from ≡ parent → edge.to ≡ child → Last edges edge position parent child

last_step : (first : PlainEdge) (edges : List PlainEdge) (edge : PlainEdge) (position parent child : ℕ) → Last edges edge position parent child → Last (first ∷ edges) edge (suc position) parent child
last_step first edges edge position parent child (before at) = before (record { edge = at.edge; edge_is = at.edge_is; kind = at.kind; from = at.from; to = at.to })
last_step first edges edge position parent child (here is kind from to) = here (omega arith) kind from to

pub last_at : (edges : List PlainEdge) (edge : PlainEdge) (position parent child : ℕ) → IsAstEdgeAt (edges ++ edge ∷ []) position parent child → Last edges edge position parent child
last_at [] edge zero parent child at =
    let is = at.edge_is in
    let same : edge ≡ at.edge = cc in
    here refl (ap (λ (e : PlainEdge). e.kind) same ∙ at.kind) (ap (λ (e : PlainEdge). e.from) same ∙ at.from) (ap (λ (e : PlainEdge). e.to) same ∙ at.to)
last_at [] edge (suc position) parent child at = let is = at.edge_is in absurd (cc)
last_at (first ∷ edges) edge zero parent child at = before (record { edge = at.edge; edge_is = at.edge_is; kind = at.kind; from = at.from; to = at.to })
last_at (first ∷ edges) edge (suc position) parent child at =
    last_step first edges edge position parent child
    (last_at edges edge position parent child (record { edge = at.edge; edge_is = at.edge_is; kind = at.kind; from = at.from; to = at.to }))

-- The node is the top one, or below it.
abbrev IsIn : List PlainEdge → ℕ → ℕ → Type 0
IsIn edges top node = (top ≡ node) ⊎ IsAbove edges top node

module _ (edges : List PlainEdge) where
  trans : (a b c : ℕ) → IsAbove edges a b → IsAbove edges b c → IsAbove edges a c
  trans a b _ up (child_of position c at) = descendant position b c up at
  trans a b _ up (descendant position parent c more at) = descendant position parent c (trans a b parent up more) at

  joined : (a b c : ℕ) → IsIn edges a b → IsIn edges b c → IsIn edges a c
  joined a b c (inl same) holds = subst (λ (k : ℕ). IsIn edges k c) (sym same) holds
  joined a b c (inr up) (inl same) = inr (subst (λ (k : ℕ). IsAbove edges a k) same up)
  joined a b c (inr up) (inr more) = inr (trans a b c up more)

  -- what stands above a node leads to it
  record Led (node : ℕ) : Type 0 where
    position : ℕ
    parent : ℕ
    at : IsAstEdgeAt edges position parent node

  led : (ancestor node : ℕ) → IsAbove edges ancestor node → Led node
  led ancestor _ (child_of position node at) = record { position = position; parent = ancestor; at = at }
  led ancestor _ (descendant position parent node up at) = record { position = position; parent = parent; at = at }

  -- nothing is above a top, and nothing is below a bare node
  pub none_above_top : (ancestor node : ℕ) → IsTop edges node → ¬ IsAbove edges ancestor node
  none_above_top ancestor node top up = let l = led ancestor node up in top.none l.position l.parent l.at

  pub none_below_bare : (node below : ℕ) → IsBare edges node → ¬ IsAbove edges node below
  none_below_bare node _ bare (child_of position below at) = bare.low position below at
  none_below_bare node _ bare (descendant position parent below up at) = none_below_bare node parent bare up

-- An edge from one node to another that is a top, and not above it.
pub record Hangs (edges : List PlainEdge) (edge : PlainEdge) : Type 0 where
  pub top : IsTop edges edge.to
  pub differs : ¬ (edge.from ≡ edge.to)
  pub not_above : ¬ IsAbove edges edge.to edge.from

module _ (edges : List PlainEdge) (edge : PlainEdge) (h : Hangs edges edge) (forest : IsForest edges) where
  one : (first second parent other node : ℕ) → Last edges edge first parent node → Last edges edge second other node → first ≡ second
  one first second parent other node (before x) (before y) = forest.one_parent first second parent other node x y
  one first second parent other node (before x) (here is kind from to) = absurd (h.top.none first parent (subst (λ (k : ℕ). IsAstEdgeAt edges first parent k) (sym to) x))
  one first second parent other node (here is kind from to) (before y) = absurd (h.top.none second other (subst (λ (k : ℕ). IsAstEdgeAt edges second other k) (sym to) y))
  one first second parent other node (here is _ _ _) (here same _ _ _) = is ∙ sym same

  -- a way down is one of the list, or goes over the new edge
  data Way (above node : ℕ) : Type 0 where
    old : IsAbove edges above node → Way above node
    new : IsIn edges above edge.from → IsIn edges edge.to node → Way above node

  way_child : (above position node : ℕ) → Last edges edge position above node → Way above node
  way_child above position node (before at) = old (child_of position node at)
  way_child above position node (here is kind from to) = new (inl (sym from)) (inl to)

  way_further : (above position parent node : ℕ) → Way above parent → Last edges edge position parent node → Way above node
  way_further above position parent node (old up) (before at) = old (descendant position parent node up at)
  way_further above position parent node (old up) (here is kind from to) = new (inr (subst (λ (k : ℕ). IsAbove edges above k) (sym from) up)) (inl to)
  way_further above position parent node (new up down) (before at) = new up (joined edges edge.to parent node down (inr (child_of position node at)))
  way_further above position parent node (new up down) (here is kind from to) = new up (inl to)

  way : (above node : ℕ) → IsAbove (edges ++ edge ∷ []) above node → Way above node
  way above _ (child_of position node at) = way_child above position node (last_at edges edge position above node at)
  way above _ (descendant position parent node up at) = way_further above position parent node (way above parent up) (last_at edges edge position parent node at)

  no_way : (node : ℕ) → ¬ Way node node
  no_way node (old up) = forest.no_cycle node up
  no_way node (new up down) = by (joined edges edge.to node edge.from down up)
    where
      by : ¬ IsIn edges edge.to edge.from
      by (inl same) = h.differs (sym same)
      by (inr above) = h.not_above above

  pub forest_with : IsForest (edges ++ edge ∷ [])
  forest_with = record {
    one_parent = λ first second parent other node x y.
        one first second parent other node (last_at edges edge first parent node x) (last_at edges edge second other node y);
    no_cycle = λ node above. no_way node (way node node above);
  }

-- What is so of nodes with one edge more.
module _ (edges : List PlainEdge) (edge : PlainEdge) (node : ℕ) where
  pub top_with : IsTop edges node → ¬ (edge.to ≡ node) → IsTop (edges ++ edge ∷ []) node
  top_with top other = record { none = λ position parent at. by position parent (last_at edges edge position parent node at) }
    where
      by : (position parent : ℕ) → ¬ Last edges edge position parent node
      by position parent (before at) = top.none position parent at
      by position parent (here is kind from to) = other to

  pub bare_with : IsBare edges node → ¬ (edge.from ≡ node) → ¬ (edge.to ≡ node) → IsBare (edges ++ edge ∷ []) node
  bare_with bare apart other = record { top = top_with bare.top other; low = λ position child at. by position child (last_at edges edge position node child at) }
    where
      by : (position child : ℕ) → ¬ Last edges edge position node child
      by position child (before at) = bare.low position child at
      by position child (here is kind from to) = apart from

-- Edges of other kinds change nothing.
pub record IsGrowing (edges : List PlainEdge) (Bare Top : ℕ → Type 0) : Type 0 where
  pub forest : IsForest edges
  pub bare : (node : ℕ) → Bare node → IsBare edges node
  pub top : (node : ℕ) → Top node → IsTop edges node

module _ (edges : List PlainEdge) (edge : PlainEdge) (other : ¬ (edge.kind ≡ Ast)) where
  only : (position parent child : ℕ) → Last edges edge position parent child → IsAstEdgeAt edges position parent child
  only position parent child (before at) = at
  only position parent child (here is kind from to) = absurd (other kind)

  old_at : (position parent child : ℕ) → IsAstEdgeAt (edges ++ edge ∷ []) position parent child → IsAstEdgeAt edges position parent child
  old_at position parent child at = only position parent child (last_at edges edge position parent child at)

  old_above : (above node : ℕ) → IsAbove (edges ++ edge ∷ []) above node → IsAbove edges above node
  old_above above _ (child_of position node at) = child_of position node (old_at position above node at)
  old_above above _ (descendant position parent node up at) = descendant position parent node (old_above above parent up) (old_at position parent node at)

  old_top : (node : ℕ) → IsTop edges node → IsTop (edges ++ edge ∷ []) node
  old_top node top = record { none = λ position parent at. top.none position parent (old_at position parent node at) }

  pub growing_other : (Bare Top : ℕ → Type 0) → IsGrowing edges Bare Top → IsGrowing (edges ++ edge ∷ []) Bare Top
  growing_other Bare Top h = record {
    forest = record {
      one_parent = λ first second parent another node x y. h.forest.one_parent first second parent another node (old_at first parent node x) (old_at second another node y);
      no_cycle = λ node above. h.forest.no_cycle node (old_above node node above);
    };
    bare = λ node is. record { top = old_top node (h.bare node is).top; low = λ position child at. (h.bare node is).low position child (old_at position node child at) };
    top = λ node is. old_top node (h.top node is);
  }

pub growing_others : (more edges : List PlainEdge) (Bare Top : ℕ → Type 0) → All (λ (edge : PlainEdge). ¬ (edge.kind ≡ Ast)) more → IsGrowing edges Bare Top → IsGrowing (edges ++ more) Bare Top
growing_others [] edges Bare Top all h = subst (λ (es : List PlainEdge). IsGrowing es Bare Top) (sym (append-nil edges)) h
growing_others (edge ∷ more) edges Bare Top all h =
    subst (λ (es : List PlainEdge). IsGrowing es Bare Top) (append_assoc edges (edge ∷ []) more)
    (growing_others more (edges ++ edge ∷ []) Bare Top (All-tail (λ (e : PlainEdge). ¬ (e.kind ≡ Ast)) edge more all)
    (growing_other edges edge (All-head (λ (e : PlainEdge). ¬ (e.kind ≡ Ast)) edge more all) Bare Top h))

-- An AST edge that hangs a node.
pub growing_hang : (edges : List PlainEdge) (edge : PlainEdge) (Bare Top Bare' Top' : ℕ → Type 0) → Hangs edges edge → IsGrowing edges Bare Top →
    ((node : ℕ) → Bare' node → Bare node × ¬ (edge.from ≡ node) × ¬ (edge.to ≡ node)) →
    ((node : ℕ) → Top' node → IsTop edges node × ¬ (edge.to ≡ node)) → IsGrowing (edges ++ edge ∷ []) Bare' Top'
growing_hang edges edge Bare Top Bare' Top' hangs h bare top = record {
  forest = forest_with edges edge hangs h.forest;
  bare = λ node is. let was = bare node is in bare_with edges edge node (h.bare node was.0) was.1 was.2;
  top = λ node is. let was = top node is in top_with edges edge node was.0 was.1;
}
