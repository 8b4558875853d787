-- A planted forest that is allowed fits every graph.
use Rattle.std.proofs.Common.{◌≡◌, ℕ, ◌+◌, ◌<◌, ◌&&◌, Bool, true, false, IsTrue, List, [], ◌∷◌, ◌++◌, length, map, slice_get, Option, Some, None, inr, refl, ap, sym, subst, ◌∙◌, arith}
use Rattle.std.specs.List.{All}
use Rattle.std.proofs.lemmas.List.{append-nil, append_assoc, length-append, length_push, map-append}
use Rattle.std.proofs.lemmas.List.Elements.{All-nil, All-cons, All-append, All-same}
use Rattle.cpg_schema.specs.declared.label.Label.{Label}
use Rattle.cpg_schema.specs.declared.edge_kind.EdgeKind.{EdgeKind}
use Rattle.cpg_schema.specs.declared.edge_kind.EdgeKind.TheVariants as edge_kind
use Rattle.cpg_schema.specs.Graph.{PlainNode, PlainGraph}
use Rattle.cpg_schema.specs.Schema.{allows}
use Rattle.cpg_schema.specs.Deltas.{NewEdge, PlainDelta, added_edge}
use Rattle.cpg_schema.specs.Fitting.{Fits, IsOldEnd, IsEdgeAmong, PartsFit}
use Rattle.cpg_schema.proofs.Apart.{apart_none, parts_fit_alone}
use Rattle.graph_delta.proofs.Fitting.{get_behind}
use Rattle.graph_forest.specs.declared.hang.Hang.{Hang}
use Rattle.graph_forest.specs.declared.hang.Hang.TheVariants.{Plain, Argument, Condition}
use Rattle.graph_forest.specs.Forest.{Forest, none, tree, nodes_of, edge_between, edges_to, edges_of, planted, may_hang, IsAllowedUnder, IsAllowed, IsPlanted}

-- what holds of each edge between new nodes
module _ (P : NewEdge → Type 0) (holds : (parent child : ℕ) (kind : EdgeKind) → P (edge_between parent child kind)) where
  each_to : (parent : Option ℕ) (h : Hang) (child : ℕ) → All P (edges_to parent h child)
  each_to None h child = All-nil P
  each_to (Some p) Plain child = All-cons P (edge_between p child edge_kind.Ast) [] (holds p child edge_kind.Ast) (All-nil P)
  each_to (Some p) (Argument i) child =
      All-cons P (edge_between p child edge_kind.Ast) (edge_between p child edge_kind.Argument ∷ []) (holds p child edge_kind.Ast)
      (All-cons P (edge_between p child edge_kind.Argument) [] (holds p child edge_kind.Argument) (All-nil P))
  each_to (Some p) Condition child =
      All-cons P (edge_between p child edge_kind.Ast) (edge_between p child edge_kind.Condition ∷ []) (holds p child edge_kind.Ast)
      (All-cons P (edge_between p child edge_kind.Condition) [] (holds p child edge_kind.Condition) (All-nil P))

  each_edge : (parent : Option ℕ) (first : ℕ) (f : Forest) → All P (edges_of parent first f)
  unfolding edges_of
  each_edge parent first none = All-nil P
  each_edge parent first (tree h n c a) =
      let one = edges_to parent h first in
      let below = edges_of (Some first) (first + 1) c in
      let at = first + 1 + length (nodes_of c) in
      All-append P (one ++ below) (edges_of parent at a) (All-append P one below (each_to parent h first) (each_edge (Some first) (first + 1) c))
      (each_edge parent at a)

and_left : (a b : Bool) → IsTrue (a && b) → IsTrue a
and_left true b t = refl
and_left false b t = t

and_right : (a b : Bool) → IsTrue (a && b) → IsTrue b
and_right true b t = t
and_right false b t = absurd (cc)

-- the nodes of a part stand at a position
record Stands (nodes : List PlainNode) (at : ℕ) (part : List PlainNode) : Type 0 where
  before : List PlainNode
  behind : List PlainNode
  is : nodes ≡ before ++ (part ++ behind)
  size : length before ≡ at

-- the node of this number has this label
record IsNodeOf (nodes : List PlainNode) (number : ℕ) (label : Label) : Type 0 where
  node : PlainNode
  node_is : slice_get nodes number ≡ Some node
  label_is : node.label ≡ label

abbrev IsParentIn : List PlainNode → ℕ → Option ℕ → Option Label → Type 0
IsParentIn nodes s None None = Unit {0}
IsParentIn nodes s (Some p) (Some label) = IsNodeOf nodes (s + p) label
IsParentIn nodes s None (Some label) = ⊥
IsParentIn nodes s (Some p) None = ⊥

stands_first : (nodes : List PlainNode) (at : ℕ) (n : PlainNode) (rest : List PlainNode) → Stands nodes at (n ∷ rest) → slice_get nodes at ≡ Some n
stands_first nodes at n rest h =
    let same : at ≡ length h.before + 0 = omega (arith, h.size) in
    ap (λ (ns : List PlainNode). slice_get ns at) h.is ∙ get_behind h.before (n ∷ (rest ++ h.behind)) at 0 same

stands_below : (nodes : List PlainNode) (at below : ℕ) (n : PlainNode) (cs more : List PlainNode) → below ≡ at + 1 →
    Stands nodes at (n ∷ (cs ++ more)) → Stands nodes below cs
stands_below nodes at below n cs more e h = record {
  before = h.before ++ n ∷ [];
  behind = more ++ h.behind;
  is =
      h.is
      ∙ (ap (λ (r : List PlainNode). h.before ++ (n ∷ r)) (append_assoc cs more h.behind) ∙ sym (append_assoc h.before (n ∷ []) (cs ++ (more ++ h.behind))));
  size = length_push h.before n ∙ (ap (λ (k : ℕ). k + 1) h.size ∙ sym e);
}

stands_behind : (nodes : List PlainNode) (at behind : ℕ) (n : PlainNode) (cs more : List PlainNode) → behind ≡ at + 1 + length cs →
    Stands nodes at (n ∷ (cs ++ more)) → Stands nodes behind more
stands_behind nodes at behind n cs more e h =
    let long = length-append h.before (n ∷ cs) in
    let start = h.size in
    record {
      before = h.before ++ (n ∷ cs);
      behind = h.behind;
      is =
          h.is
          ∙ (ap (λ (r : List PlainNode). h.before ++ (n ∷ r)) (append_assoc cs more h.behind) ∙ sym (append_assoc h.before (n ∷ cs) (more ++ h.behind)));
      size = omega arith;
    }

module _ (nodes : List PlainNode) (s : ℕ) where
  among_one : (p child : ℕ) (kind : EdgeKind) (label : Label) (n : PlainNode) → IsNodeOf nodes (s + p) label → slice_get nodes (s + child) ≡ Some n →
      IsTrue (allows kind label n.label) → IsEdgeAmong nodes (added_edge s (edge_between p child kind))
  among_one p child kind label n parent is t = record {
    from = parent.node;
    from_is = parent.node_is;
    to = n;
    to_is = is;
    allowed = subst (λ (l : Label). IsTrue (allows kind l n.label)) (sym parent.label_is) t;
    variable = inr refl;
  }

  among_both : (p child : ℕ) (kind : EdgeKind) (label : Label) (n : PlainNode) → IsNodeOf nodes (s + p) label → slice_get nodes (s + child) ≡ Some n →
      IsTrue (allows edge_kind.Ast label n.label && allows kind label n.label) →
      All (IsEdgeAmong nodes) (map (added_edge s) (edge_between p child edge_kind.Ast ∷ edge_between p child kind ∷ []))
  among_both p child kind label n parent is t =
      let one = added_edge s (edge_between p child edge_kind.Ast) in
      let two = added_edge s (edge_between p child kind) in
      All-cons (IsEdgeAmong nodes) one (two ∷ [])
      (among_one p child edge_kind.Ast label n parent is (and_left (allows edge_kind.Ast label n.label) (allows kind label n.label) t))
      (All-cons (IsEdgeAmong nodes) two [] (among_one p child kind label n parent is (and_right (allows edge_kind.Ast label n.label) (allows kind label n.label) t))
      (All-nil (IsEdgeAmong nodes)))

  among_to : (parent : Option ℕ) (label : Option Label) (h : Hang) (child : ℕ) (n : PlainNode) → IsParentIn nodes s parent label →
      slice_get nodes (s + child) ≡ Some n → IsTrue (may_hang label h n.label) → All (IsEdgeAmong nodes) (map (added_edge s) (edges_to parent h child))
  among_to None label h child n parent is t = All-nil (IsEdgeAmong nodes)
  among_to (Some p) None h child n parent is t = absurd parent
  among_to (Some p) (Some l) Plain child n parent is t =
      All-cons (IsEdgeAmong nodes) (added_edge s (edge_between p child edge_kind.Ast)) [] (among_one p child edge_kind.Ast l n parent is t) (All-nil (IsEdgeAmong nodes))
  among_to (Some p) (Some l) (Argument i) child n parent is t = among_both p child edge_kind.Argument l n parent is t
  among_to (Some p) (Some l) Condition child n parent is t = among_both p child edge_kind.Condition l n parent is t

  all_append : (xs ys : List NewEdge) → All (IsEdgeAmong nodes) (map (added_edge s) xs) → All (IsEdgeAmong nodes) (map (added_edge s) ys) →
      All (IsEdgeAmong nodes) (map (added_edge s) (xs ++ ys))
  all_append xs ys p q =
      All-same (IsEdgeAmong nodes) (map (added_edge s) (xs ++ ys)) (map (added_edge s) xs ++ map (added_edge s) ys) (map-append (added_edge s) xs ys)
      (All-append (IsEdgeAmong nodes) (map (added_edge s) xs) (map (added_edge s) ys) p q)

  among_all : (parent : Option ℕ) (label : Option Label) (first : ℕ) (f : Forest) → IsParentIn nodes s parent label → Stands nodes (s + first) (nodes_of f) →
      IsAllowedUnder label f → All (IsEdgeAmong nodes) (map (added_edge s) (edges_of parent first f))
  unfolding nodes_of edges_of
  among_all parent label first none up stands allowed = All-nil (IsEdgeAmong nodes)
  among_all parent label first (tree h n c a) up stands allowed =
      let one = edges_to parent h first in
      let below = edges_of (Some first) (first + 1) c in
      let at = first + 1 + length (nodes_of c) in
      let is = stands_first nodes (s + first) n (nodes_of c ++ nodes_of a) stands in
      let itself : IsNodeOf nodes (s + first) n.label = record { node = n; node_is = is; label_is = refl } in
      let same_below : s + (first + 1) ≡ s + first + 1 = omega arith in
      let same_behind : s + at ≡ s + first + 1 + length (nodes_of c) = omega arith in
      all_append (one ++ below) (edges_of parent at a)
      (all_append one below (among_to parent label h first n up is allowed.0)
      (among_all (Some first) (Some n.label) (first + 1) c itself (stands_below nodes (s + first) (s + (first + 1)) n (nodes_of c) (nodes_of a) same_below stands) allowed.1))
      (among_all parent label at a up (stands_behind nodes (s + first) (s + at) n (nodes_of c) (nodes_of a) same_behind stands) allowed.2)

-- an allowed forest fits every graph
fits_forest : (graph : PlainGraph) (f : Forest) → IsAllowed f → Fits graph (planted f)
unfolding planted
fits_forest graph f allowed =
    let s = length graph.nodes in
    let stands : Stands (graph.nodes ++ nodes_of f) (s + 0) (nodes_of f) = record {
      before = graph.nodes;
      behind = [];
      is = ap (λ (ns : List PlainNode). graph.nodes ++ ns) (sym (append-nil (nodes_of f)));
      size = omega arith;
    } in
    record {
      old_from = each_edge (λ (e : NewEdge). IsOldEnd s e.from) (λ parent child kind. tt) None 0 f;
      old_to = each_edge (λ (e : NewEdge). IsOldEnd s e.to) (λ parent child kind. tt) None 0 f;
      allowed = among_all (graph.nodes ++ nodes_of f) s None None 0 f tt stands allowed;
      settings = All-nil _;
      apart = apart_none;
    }

-- and so does a delta that adds one
pub planted_fits : (graph : PlainGraph) (delta : PlainDelta) → IsPlanted delta → Fits graph delta
planted_fits graph delta h = subst (λ (d : PlainDelta). Fits graph d) (sym h.is) (fits_forest graph h.forest h.allowed)

sets_none : (delta : PlainDelta) → IsPlanted delta → delta.settings ≡ []
unfolding planted
sets_none delta h = ap (λ (d : PlainDelta). d.settings) h.is

-- where each part adds one, the parts fit
pub planted_parts_fit : (start : PlainGraph) (delta_of : ℕ → PlainDelta) (parts : ℕ) → ((part : ℕ) → part < parts → IsPlanted (delta_of part)) →
    PartsFit start delta_of parts
planted_parts_fit start delta_of parts each =
    parts_fit_alone start delta_of parts (λ k low. sets_none (delta_of k) (each k low)) (λ k low. planted_fits start (delta_of k) (each k low))
