-- In a planted forest each AST edge leads to a later node, and to each node at most one: the AST edges are listed by the nodes that they lead to.
use Rattle.std.proofs.Common.{◌≡◌, ℕ, zero, suc, ◌+◌, ◌<◌, ◌≤◌, List, [], ◌∷◌, ◌++◌, length, map, slice_get, Option, Some, None, refl, ap, sym, subst, ◌∙◌, arith}
use Rattle.std.proofs.lemmas.List.{length-append, map-append}
use Rattle.cpg_schema.specs.declared.edge_kind.EdgeKind.{EdgeKind}
use Rattle.cpg_schema.specs.declared.edge_kind.EdgeKind.TheVariants as edge_kind
use Rattle.cpg_schema.specs.Graph.{PlainEdge}
use Rattle.cpg_schema.specs.Deltas.{NewEdge, added_edge}
use Rattle.cpg_schema.specs.Shape.{IsAstEdgeAt}
use Rattle.graph_forest.specs.declared.hang.Hang.{Hang}
use Rattle.graph_forest.specs.declared.hang.Hang.TheVariants.{Plain, Argument, Condition}
use Rattle.graph_forest.specs.Forest.{Forest, none, tree, nodes_of, edge_between, edges_to, edges_of}

-- Each AST edge leads from a node of number base or more to a later one, and the nodes that they lead to rise from low on, below high.
pub data IsRising (base high : ℕ) : ℕ → List PlainEdge → Type 0 where
  done : (low : ℕ) → low ≤ high → IsRising base high low []
  other : (low : ℕ) (e : PlainEdge) (es : List PlainEdge) → ¬ (e.kind ≡ edge_kind.Ast) → IsRising base high low es → IsRising base high low (e ∷ es)
  rise : (low : ℕ) (e : PlainEdge) (es : List PlainEdge) → base ≤ e.from → e.from < e.to → low ≤ e.to → IsRising base high (e.to + 1) es →
      IsRising base high low (e ∷ es)

pub lower : (base high low below : ℕ) (es : List PlainEdge) → below ≤ low → IsRising base high low es → IsRising base high below es
lower base high _ below _ le (done low h) = done below (omega arith)
lower base high _ below _ le (other low e es k h) = other below e es k (lower base high low below es le h)
lower base high _ below _ le (rise low e es f t l h) = rise below e es f t (omega arith) h

higher : (base high above low : ℕ) (es : List PlainEdge) → high ≤ above → IsRising base high low es → IsRising base above low es
higher base high above _ _ le (done low h) = done low (omega arith)
higher base high above _ _ le (other low e es k h) = other low e es k (higher base high above low es le h)
higher base high above _ _ le (rise low e es f t l h) = rise low e es f t l (higher base high above (e.to + 1) es le h)

joins : (base middle high low : ℕ) (xs ys : List PlainEdge) → IsRising base middle low xs → IsRising base high middle ys → IsRising base high low (xs ++ ys)
joins base middle high _ _ ys (done low h) r = lower base high middle low ys h r
joins base middle high _ _ ys (other low e es k h) r = other low e (es ++ ys) k (joins base middle high low es ys h r)
joins base middle high _ _ ys (rise low e es f t l h) r = rise low e (es ++ ys) f t l (joins base middle high (e.to + 1) es ys h r)

-- a forest hangs from an earlier node
abbrev IsEarlier : Option ℕ → ℕ → Type 0
IsEarlier None first = Unit {0}
IsEarlier (Some parent) first = parent < first

earlier : (parent : Option ℕ) (first later : ℕ) → first ≤ later → IsEarlier parent first → IsEarlier parent later
earlier None first later le h = tt
earlier (Some parent) first later le h = omega arith

module _ (s : ℕ) where
  joins_added : (middle high low : ℕ) (xs ys : List NewEdge) → IsRising s middle low (map (added_edge s) xs) → IsRising s high middle (map (added_edge s) ys) →
      IsRising s high low (map (added_edge s) (xs ++ ys))
  joins_added middle high low xs ys p q =
      subst (λ (es : List PlainEdge). IsRising s high low es) (sym (map-append (added_edge s) xs ys))
      (joins s middle high low (map (added_edge s) xs) (map (added_edge s) ys) p q)

  rises_both : (parent child : ℕ) (kind : EdgeKind) → parent < child → ¬ (kind ≡ edge_kind.Ast) →
      IsRising s (s + child + 1) (s + child) (map (added_edge s) (edge_between parent child edge_kind.Ast ∷ edge_between parent child kind ∷ []))
  rises_both parent child kind up k =
      let one = added_edge s (edge_between parent child edge_kind.Ast) in
      let two = added_edge s (edge_between parent child kind) in
      rise (s + child) one (two ∷ []) (omega arith) (omega arith) (omega arith) (other (s + child + 1) two [] k (done (s + child + 1) (omega arith)))

  rises_to : (parent : Option ℕ) (h : Hang) (child : ℕ) → IsEarlier parent child →
      IsRising s (s + child + 1) (s + child) (map (added_edge s) (edges_to parent h child))
  rises_to None h child up = done (s + child) (omega arith)
  rises_to (Some p) Plain child up =
      rise (s + child) (added_edge s (edge_between p child edge_kind.Ast)) [] (omega arith) (omega arith) (omega arith) (done (s + child + 1) (omega arith))
  rises_to (Some p) (Argument i) child up = rises_both p child edge_kind.Argument up (λ (bad : edge_kind.Argument ≡ edge_kind.Ast). cc)
  rises_to (Some p) Condition child up = rises_both p child edge_kind.Condition up (λ (bad : edge_kind.Condition ≡ edge_kind.Ast). cc)

  pub rises : (parent : Option ℕ) (first : ℕ) (f : Forest) → IsEarlier parent first →
      IsRising s (s + first + length (nodes_of f)) (s + first) (map (added_edge s) (edges_of parent first f))
  unfolding nodes_of edges_of
  rises parent first none up = done (s + first) (omega arith)
  rises parent first (tree h n c a) up =
      let one = edges_to parent h first in
      let below = edges_of (Some first) (first + 1) c in
      let at = first + 1 + length (nodes_of c) in
      let behind = edges_of parent at a in
      let size = length-append (nodes_of c) (nodes_of a) in
      let next : first < first + 1 = omega arith in
      let past : first ≤ at = omega arith in
      let end_below : s + (first + 1) + length (nodes_of c) ≤ s + at = omega arith in
      let start_below : s + first + 1 ≤ s + (first + 1) = omega arith in
      let end : s + at + length (nodes_of a) ≤ s + first + length (n ∷ (nodes_of c ++ nodes_of a)) = omega arith in
      let rises_below =
      lower s (s + at) (s + (first + 1)) (s + first + 1) (map (added_edge s) below) start_below
      (higher s (s + (first + 1) + length (nodes_of c)) (s + at) (s + (first + 1)) (map (added_edge s) below) end_below (rises (Some first) (first + 1) c next)) in
      let rises_behind =
      higher s (s + at + length (nodes_of a)) (s + first + length (n ∷ (nodes_of c ++ nodes_of a))) (s + at) (map (added_edge s) behind) end
      (rises parent at a (earlier parent first at past up)) in
      joins_added (s + at) (s + first + length (n ∷ (nodes_of c ++ nodes_of a))) (s + first) (one ++ below) behind
      (joins_added (s + first + 1) (s + at) (s + first) one below (rises_to parent h first up) rises_below) rises_behind

-- the first edge is an AST edge
record IsAst (e : PlainEdge) (parent child : ℕ) : Type 0 where
  kind : e.kind ≡ edge_kind.Ast
  from : e.from ≡ parent
  to : e.to ≡ child

first_of_edges : (e : PlainEdge) (es : List PlainEdge) (parent child : ℕ) → IsAstEdgeAt (e ∷ es) zero parent child → IsAst e parent child
first_of_edges e es parent child at =
    let is : Some e ≡ Some at.edge = at.edge_is in
    let same : e ≡ at.edge = cc in
    record {
      kind = ap (λ (x : PlainEdge). x.kind) same ∙ at.kind;
      from = ap (λ (x : PlainEdge). x.from) same ∙ at.from;
      to = ap (λ (x : PlainEdge). x.to) same ∙ at.to;
    }

pub rest_of_edges : (e : PlainEdge) (es : List PlainEdge) (position parent child : ℕ) → IsAstEdgeAt (e ∷ es) (suc position) parent child → IsAstEdgeAt es position parent child
rest_of_edges e es position parent child at = record { edge = at.edge; edge_is = at.edge_is; kind = at.kind; from = at.from; to = at.to }

pub no_edge : (position parent child : ℕ) → IsAstEdgeAt [] position parent child → ⊥
no_edge zero parent child at = let is = at.edge_is in cc
no_edge (suc position) parent child at = let is = at.edge_is in cc

-- what is known of an AST edge
pub record IsUp (base low parent child : ℕ) : Type 0 where
  pub base_le : base ≤ parent
  pub up : parent < child
  pub low_le : low ≤ child

pub at_rising : (base high low : ℕ) (es : List PlainEdge) (position parent child : ℕ) → IsRising base high low es → IsAstEdgeAt es position parent child →
    IsUp base low parent child
at_rising base high _ _ position parent child (done low h) at = absurd (no_edge position parent child at)
at_rising base high _ _ zero parent child (other low e es k h) at = absurd (k (first_of_edges e es parent child at).kind)
at_rising base high _ _ (suc position) parent child (other low e es k h) at =
    at_rising base high low es position parent child h (rest_of_edges e es position parent child at)
at_rising base high _ _ zero parent child (rise low e es f t l h) at =
    let one = first_of_edges e es parent child at in
    let from = one.from in
    let to = one.to in
    record { base_le = omega arith; up = omega arith; low_le = omega arith }
at_rising base high _ _ (suc position) parent child (rise low e es f t l h) at =
    let later = at_rising base high (e.to + 1) es position parent child h (rest_of_edges e es position parent child at) in
    let le = later.low_le in
    record { base_le = later.base_le; up = later.up; low_le = omega arith }

-- at most one AST edge leads to a node
pub one_rising : (base high low : ℕ) (es : List PlainEdge) (i j p q child : ℕ) → IsRising base high low es → IsAstEdgeAt es i p child → IsAstEdgeAt es j q child → i ≡ j
one_rising base high _ _ i j p q child (done low h) one two = absurd (no_edge i p child one)
one_rising base high _ _ zero j p q child (other low e es k h) one two = absurd (k (first_of_edges e es p child one).kind)
one_rising base high _ _ (suc i) zero p q child (other low e es k h) one two = absurd (k (first_of_edges e es q child two).kind)
one_rising base high _ _ (suc i) (suc j) p q child (other low e es k h) one two =
    ap suc (one_rising base high low es i j p q child h (rest_of_edges e es i p child one) (rest_of_edges e es j q child two))
one_rising base high _ _ zero zero p q child (rise low e es f t l h) one two = refl
one_rising base high _ _ zero (suc j) p q child (rise low e es f t l h) one two =
    let to = (first_of_edges e es p child one).to in
    let le = (at_rising base high (e.to + 1) es j q child h (rest_of_edges e es j q child two)).low_le in
    absurd (omega arith)
one_rising base high _ _ (suc i) zero p q child (rise low e es f t l h) one two =
    let to = (first_of_edges e es q child two).to in
    let le = (at_rising base high (e.to + 1) es i p child h (rest_of_edges e es i p child one)).low_le in
    absurd (omega arith)
one_rising base high _ _ (suc i) (suc j) p q child (rise low e es f t l h) one two =
    ap suc (one_rising base high (e.to + 1) es i j p q child h (rest_of_edges e es i p child one) (rest_of_edges e es j q child two))
