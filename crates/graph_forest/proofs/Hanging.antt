-- What a planter does at a node, by the vector of open positions, whose last is the innermost.
use Rattle.std.proofs.Common.{◌≡◌, ℕ, zero, suc, ◌+◌, ◌-◌, ◌<◌, ◌≤◌, List, [], ◌∷◌, ◌++◌, length, reverse, slice_get, Option, Some, None, refl, ap, sym, subst, ◌∙◌, arith}
use Rattle.std.specs.List.{All}
use Rattle.std.proofs.lemmas.List.{append-nil, reverse-append, reverse-reverse, length_push}
use Rattle.std.proofs.lemmas.List.Elements.{All-weaker}
use Rattle.std.proofs.lemmas.Grind.{reverse_onto}
use Rattle.cpg_schema.specs.Graph.{PlainNode}
use Rattle.cpg_schema.specs.Deltas.{NewEdge, PlainDelta}
use Rattle.graph_forest.specs.declared.hang.Hang.{Hang}
use Rattle.graph_forest.specs.Forest.{Forest, leaf, edges_to, with_forest}
use Rattle.graph_forest.specs.Planting.{Planting, innermost, Plants, Enters}
use Rattle.graph_forest.proofs.Growing.{added, with_leaf}
use Rattle.graph_forest.proofs.Setting.{with_node}

abbrev pub planting_of : PlainDelta → List ℕ → Planting
planting_of d items = record { delta = d; opened = reverse items }

behind : (xs : List ℕ) (x n : ℕ) → n ≡ length xs + 0 → slice_get (xs ++ x ∷ []) n ≡ Some x
behind [] x zero e = refl
behind [] x (suc n) e = absurd (omega arith)
behind (y ∷ ys) x zero e = absurd (omega arith)
behind (y ∷ ys) x (suc n) e = behind ys x n (omega arith)

get_last : (xs : List ℕ) (x : ℕ) → slice_get (xs ++ x ∷ []) (length (xs ++ x ∷ []) - 1) ≡ Some x
get_last xs x =
    let size = length_push xs x in
    behind xs x (length (xs ++ x ∷ []) - 1) (omega arith)

innermost_of : (xs : List ℕ) → innermost xs ≡ slice_get (reverse xs) (length (reverse xs) - 1)
innermost_of [] = refl
innermost_of (x ∷ xs) =
    let P : List ℕ → Type 0 = λ r. Some x ≡ slice_get r (length r - 1) in
    subst P (sym (reverse_onto xs x [])) (sym (get_last (reverse xs) x))

-- the innermost open node is the last of the vector
innermost_is : (items : List ℕ) → innermost (reverse items) ≡ slice_get items (length items - 1)
innermost_is items = innermost_of (reverse items) ∙ ap (λ (xs : List ℕ). slice_get xs (length xs - 1)) (reverse-reverse items)

plants_leaf : (d new : PlainDelta) (opened : List ℕ) (parent : Option ℕ) (h : Hang) (x : PlainNode) → innermost opened ≡ parent →
    new ≡ added d (x ∷ []) (edges_to parent h (length d.nodes)) → Plants (record { delta = d; opened = opened }) (record { delta = new; opened = opened }) (leaf h x)
plants_leaf d new opened parent h x from is = record {
  delta = is ∙ (sym (with_leaf parent h x d) ∙ ap (λ (p : Option ℕ). with_forest p (leaf h x) d) (sym from));
  opened = refl;
}

-- a node that hangs from another
pub plants_hung : (old : Planting) (d d1 d2 : PlainDelta) (items s : List ℕ) (parent position : ℕ) (h : Hang) (x : PlainNode) → planting_of d items ≡ old →
    Some parent ≡ slice_get s (length s - 1) → s ≡ items → d1 ≡ with_node d x → position ≡ length d.nodes →
    d2 ≡ record d1 { edges = d1.edges ++ edges_to (Some parent) h position } → Plants old (planting_of d2 items) (leaf h x)
plants_hung old d d1 d2 items s parent position h x view last same node at hung =
    let from : innermost (reverse items) ≡ Some parent =
    innermost_is items ∙ sym (last ∙ ap (λ (xs : List ℕ). slice_get xs (length xs - 1)) same) in
    let is : d2 ≡ added d (x ∷ []) (edges_to (Some parent) h (length d.nodes)) =
    hung
    ∙ (ap (λ (e : PlainDelta). record e { edges = e.edges ++ edges_to (Some parent) h position }) node
    ∙ ap (λ (n : ℕ). added d (x ∷ []) (edges_to (Some parent) h n)) at) in
    subst (λ (o : Planting). Plants o (planting_of d2 items) (leaf h x)) view (plants_leaf d d2 (reverse items) (Some parent) h x from is)

-- a node that hangs from none
pub plants_root : (old : Planting) (d d1 : PlainDelta) (items s : List ℕ) (h : Hang) (x : PlainNode) → planting_of d items ≡ old →
    None ≡ slice_get s (length s - 1) → s ≡ items → d1 ≡ with_node d x → Plants old (planting_of d1 items) (leaf h x)
plants_root old d d1 items s h x view last same node =
    let from : innermost (reverse items) ≡ None =
    innermost_is items ∙ sym (last ∙ ap (λ (xs : List ℕ). slice_get xs (length xs - 1)) same) in
    let is : d1 ≡ added d (x ∷ []) [] = node ∙ ap (λ (es : List NewEdge). record d { nodes = d.nodes ++ x ∷ []; edges = es }) (sym (append-nil d.edges)) in
    subst (λ (o : Planting). Plants o (planting_of d1 items) (leaf h x)) view (plants_leaf d d1 (reverse items) None h x from is)
