-- The nodes and edges of forests beside one another, and how many there are.
use Rattle.std.proofs.Common.{◌≡◌, ℕ, ◌+◌, ◌*◌, ◌≤◌, List, [], ◌∷◌, ◌++◌, length, Option, Some, None, refl, ap, sym, ◌∙◌, arith}
use Rattle.std.proofs.lemmas.List.{append-nil, append_assoc, length-append}
use Rattle.cpg_schema.specs.Graph.{PlainNode}
use Rattle.cpg_schema.specs.Deltas.{NewEdge}
use Rattle.graph_forest.specs.declared.hang.Hang.{Hang}
use Rattle.graph_forest.specs.declared.hang.Hang.TheVariants.{Plain, Argument, Condition}
use Rattle.graph_forest.specs.Forest.{Forest, none, tree, beside, nodes_of, edges_to, edges_of}

pub nodes_of-beside : (f g : Forest) → nodes_of (beside f g) ≡ nodes_of f ++ nodes_of g
unfolding nodes_of beside
nodes_of-beside none g = refl
nodes_of-beside (tree h n c a) g =
    ap (λ (ns : List PlainNode). n ∷ (nodes_of c ++ ns)) (nodes_of-beside a g) ∙ sym (append_assoc (n ∷ nodes_of c) (nodes_of a) (nodes_of g))

pub length-nodes_of-beside : (f g : Forest) → length (nodes_of (beside f g)) ≡ length (nodes_of f) + length (nodes_of g)
length-nodes_of-beside f g = ap (λ (ns : List PlainNode). length ns) (nodes_of-beside f g) ∙ length-append (nodes_of f) (nodes_of g)

pub edges_of-beside : (parent : Option ℕ) (first : ℕ) (f g : Forest) →
    edges_of parent first (beside f g) ≡ edges_of parent first f ++ edges_of parent (first + length (nodes_of f)) g
unfolding nodes_of edges_of beside
edges_of-beside parent first none g =
    let same : first ≡ first + 0 = omega arith in
    ap (λ (k : ℕ). edges_of parent k g) same
edges_of-beside parent first (tree h n c a) g =
    let at = first + 1 + length (nodes_of c) in
    let front = edges_to parent h first ++ edges_of (Some first) (first + 1) c in
    let size = length-append (nodes_of c) (nodes_of a) in
    let same : at + length (nodes_of a) ≡ first + length (n ∷ (nodes_of c ++ nodes_of a)) = omega arith in
    let later = edges_of-beside parent at a g ∙ ap (λ (k : ℕ). edges_of parent at a ++ edges_of parent k g) same in
    ap (λ (es : List NewEdge). front ++ es) later
    ∙ sym (append_assoc front (edges_of parent at a) (edges_of parent (first + length (n ∷ (nodes_of c ++ nodes_of a))) g))

length-edges_to : (parent : Option ℕ) (h : Hang) (child : ℕ) → length (edges_to parent h child) ≤ 2
length-edges_to None h child = omega arith
length-edges_to (Some parent) Plain child = omega arith
length-edges_to (Some parent) (Argument i) child = omega arith
length-edges_to (Some parent) Condition child = omega arith

-- at most two edges a node
pub length-edges_of : (parent : Option ℕ) (first : ℕ) (f : Forest) → length (edges_of parent first f) ≤ 2 * length (nodes_of f)
unfolding nodes_of edges_of
length-edges_of parent first none = omega arith
length-edges_of parent first (tree h n c a) =
    let at = first + 1 + length (nodes_of c) in
    let one = edges_to parent h first in
    let below = edges_of (Some first) (first + 1) c in
    let behind = edges_of parent at a in
    let few = length-edges_to parent h first in
    let few_below = length-edges_of (Some first) (first + 1) c in
    let few_behind = length-edges_of parent at a in
    let size = length-append (nodes_of c) (nodes_of a) in
    omega (arith, length-append (one ++ below) behind, length-append one below)
