-- A delta with one forest more, and then another.
use Rattle.std.proofs.Common.{◌≡◌, ℕ, ◌+◌, List, [], ◌∷◌, ◌++◌, length, Option, Some, None, refl, ap, sym, ◌∙◌, arith}
use Rattle.std.proofs.lemmas.List.{append-nil, append_assoc, length-append, length_push}
use Rattle.cpg_schema.specs.Graph.{PlainNode}
use Rattle.cpg_schema.specs.Deltas.{NewEdge, PlainDelta}
use Rattle.graph_forest.specs.declared.hang.Hang.{Hang}
use Rattle.graph_forest.specs.Forest.{Forest, none, tree, branch, leaf, beside, nodes_of, edges_to, edges_of, with_forest}
use Rattle.graph_forest.proofs.Sizes.{nodes_of-beside, edges_of-beside}

-- the delta with these nodes and edges in place of its own
abbrev pub of_parts : PlainDelta → List PlainNode → List NewEdge → PlainDelta
of_parts d ns es = record d { nodes = ns; edges = es }

-- the delta with these nodes and edges behind its own
abbrev pub added : PlainDelta → List PlainNode → List NewEdge → PlainDelta
added d ns es = of_parts d (d.nodes ++ ns) (d.edges ++ es)

same_parts : (d : PlainDelta) (ns ms : List PlainNode) (es fs : List NewEdge) → ns ≡ ms → es ≡ fs → of_parts d ns es ≡ of_parts d ms fs
same_parts d ns ms es fs p q = ap (λ (x : List PlainNode). of_parts d x es) p ∙ ap (λ (y : List NewEdge). of_parts d ms y) q

same_added : (d : PlainDelta) (ns ms : List PlainNode) (es fs : List NewEdge) → ns ≡ ms → es ≡ fs → added d ns es ≡ added d ms fs
same_added d ns ms es fs p q = ap (λ (x : List PlainNode). added d x es) p ∙ ap (λ (y : List NewEdge). added d ms y) q

added_twice : (d : PlainDelta) (ns ms : List PlainNode) (es fs : List NewEdge) → added (added d ns es) ms fs ≡ added d (ns ++ ms) (es ++ fs)
added_twice d ns ms es fs =
    same_parts d ((d.nodes ++ ns) ++ ms) (d.nodes ++ (ns ++ ms)) ((d.edges ++ es) ++ fs) (d.edges ++ (es ++ fs)) (append_assoc d.nodes ns ms)
    (append_assoc d.edges es fs)

pub with_none : (parent : Option ℕ) (d : PlainDelta) → with_forest parent none d ≡ d
unfolding with_forest nodes_of edges_of
with_none parent d = same_parts d (d.nodes ++ []) d.nodes (d.edges ++ []) d.edges (append-nil d.nodes) (append-nil d.edges)

pub with_beside : (parent : Option ℕ) (f g : Forest) (d : PlainDelta) →
    with_forest parent g (with_forest parent f d) ≡ with_forest parent (beside f g) d
unfolding with_forest
with_beside parent f g d =
    let n = length d.nodes in
    let es = edges_of parent n f in
    ap (λ (k : ℕ). added (added d (nodes_of f) es) (nodes_of g) (edges_of parent k g)) (length-append d.nodes (nodes_of f))
    ∙ (added_twice d (nodes_of f) (nodes_of g) es (edges_of parent (n + length (nodes_of f)) g)
    ∙ same_added d (nodes_of f ++ nodes_of g) (nodes_of (beside f g)) (es ++ edges_of parent (n + length (nodes_of f)) g) (edges_of parent n (beside f g))
    (sym (nodes_of-beside f g)) (sym (edges_of-beside parent n f g)))

-- a leaf's node and edges
pub with_leaf : (parent : Option ℕ) (h : Hang) (x : PlainNode) (d : PlainDelta) →
    with_forest parent (leaf h x) d ≡ added d (x ∷ []) (edges_to parent h (length d.nodes))
unfolding with_forest nodes_of edges_of
with_leaf parent h x d =
    let es = edges_to parent h (length d.nodes) in
    same_added d (x ∷ []) (x ∷ []) ((es ++ []) ++ []) es refl (append-nil (es ++ []) ∙ append-nil es)

on_leaf : (parent : Option ℕ) (h : Hang) (x : PlainNode) (f : Forest) (d : PlainDelta) →
    with_forest (Some (length d.nodes)) f (added d (x ∷ []) (edges_to parent h (length d.nodes))) ≡ with_forest parent (branch h x f) d
unfolding with_forest nodes_of edges_of
on_leaf parent h x f d =
    let n = length d.nodes in
    let es = edges_to parent h n in
    let below = edges_of (Some n) (n + 1) f in
    ap (λ (k : ℕ). added (added d (x ∷ []) es) (nodes_of f) (edges_of (Some n) k f)) (length_push d.nodes x)
    ∙ (added_twice d (x ∷ []) (nodes_of f) es below
    ∙ same_added d (x ∷ nodes_of f) (x ∷ (nodes_of f ++ [])) (es ++ below) ((es ++ below) ++ []) (ap (λ (ns : List PlainNode). x ∷ ns) (sym (append-nil (nodes_of f))))
    (sym (append-nil (es ++ below))))

pub with_branch : (parent : Option ℕ) (h : Hang) (x : PlainNode) (f : Forest) (d : PlainDelta) →
    with_forest (Some (length d.nodes)) f (with_forest parent (leaf h x) d) ≡ with_forest parent (branch h x f) d
with_branch parent h x f d =
    ap (λ (e : PlainDelta). with_forest (Some (length d.nodes)) f e) (with_leaf parent h x d) ∙ on_leaf parent h x f d
