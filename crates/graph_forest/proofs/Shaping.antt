-- A shaped graph stays shaped when allowed forests are planted.
use Rattle.std.proofs.Common.{◌≡◌, ℕ, zero, suc, ◌+◌, ◌<◌, ◌≤◌, List, [], ◌∷◌, ◌++◌, Ok, length, map, slice_get, Some, None, sym, subst, arith}
use Rattle.std.specs.List.{All}
use Rattle.std.proofs.lemmas.List.Elements.{All-head, All-tail}
use Rattle.cpg_schema.specs.declared.caps.Caps.{Caps}
use Rattle.cpg_schema.specs.Graph.{PlainNode, PlainEdge, PlainGraph, plain_graph}
use Rattle.cpg_schema.specs.Deltas.{PlainDelta, applied, added_edge}
use Rattle.cpg_schema.specs.Fitting.{IsEdgeAmong, IsGraph}
use Rattle.cpg_schema.proofs.Among.{applied_is_graph}
use Rattle.cpg_schema.specs.Sequence.{seq}
use Rattle.cpg_schema.specs.Shape.{IsAstEdgeAt, IsAbove, child as child_of, descendant as further, IsShaped}
use Rattle.graph_delta.proofs.Sequencing.{seq_keeps}
use Rattle.graph_forest.specs.Forest.{Forest, nodes_of, edges_of, planted, IsPlanted}
use Rattle.graph_forest.proofs.Fitting.{planted_fits}
use Rattle.graph_forest.proofs.Rising.{IsRising, lower, rises, rest_of_edges, no_edge, IsUp, at_rising, one_rising}

get_inside : (xs : List PlainNode) (i : ℕ) (x : PlainNode) → slice_get xs i ≡ Some x → i < length xs
get_inside [] zero x is = absurd (cc)
get_inside [] (suc i) x is = absurd (cc)
get_inside (y ∷ ys) zero x is = omega arith
get_inside (y ∷ ys) (suc i) x is = let low = get_inside ys i x is in omega arith

all_at : (P : PlainEdge → Type 0) (edges : List PlainEdge) → All P edges → (position : ℕ) (edge : PlainEdge) → slice_get edges position ≡ Some edge → P edge
all_at P [] all position edge is = cc
all_at P (first ∷ rest) all zero edge is = let same : first ≡ edge = cc in subst P same (All-head P first rest all)
all_at P (first ∷ rest) all (suc position) edge is = all_at P rest (All-tail P first rest all) position edge is

-- an AST edge stands in the front list or behind it
data Side (xs ys : List PlainEdge) (position parent child : ℕ) : Type 0 where
  front : IsAstEdgeAt xs position parent child → Side xs ys position parent child
  behind : (j : ℕ) → position ≡ length xs + j → IsAstEdgeAt ys j parent child → Side xs ys position parent child

one_more : (e : PlainEdge) (xs ys : List PlainEdge) (position parent child : ℕ) → Side xs ys position parent child → Side (e ∷ xs) ys (suc position) parent child
one_more e xs ys position parent child (front at) = front (record { edge = at.edge; edge_is = at.edge_is; kind = at.kind; from = at.from; to = at.to })
one_more e xs ys position parent child (behind j is at) = behind j (omega arith) at

side : (xs ys : List PlainEdge) (position parent child : ℕ) → IsAstEdgeAt (xs ++ ys) position parent child → Side xs ys position parent child
side [] ys position parent child at = behind position (omega arith) at
side (e ∷ xs) ys zero parent child at = front (record { edge = at.edge; edge_is = at.edge_is; kind = at.kind; from = at.from; to = at.to })
side (e ∷ xs) ys (suc position) parent child at =
    one_more e xs ys position parent child (side xs ys position parent child (rest_of_edges e (xs ++ ys) position parent child at))

record AreOld (count parent child : ℕ) : Type 0 where
  parent_old : parent < count
  child_old : child < count

-- a path lies among the old nodes, or leads to a new node and rises
data Path (graph : PlainGraph) (ancestor node : ℕ) : Type 0 where
  old : node < length graph.nodes → IsAbove graph.edges ancestor node → Path graph ancestor node
  new : length graph.nodes ≤ node → ancestor < node → Path graph ancestor node

module _ (graph : PlainGraph) (ys : List PlainEdge) (high : ℕ) (among : All (IsEdgeAmong graph.nodes) graph.edges) (shaped : IsShaped graph)
    (rising : IsRising (length graph.nodes) high (length graph.nodes) ys) where
  ends_old : (position parent child : ℕ) → IsAstEdgeAt graph.edges position parent child → AreOld (length graph.nodes) parent child
  ends_old position parent child at =
      let edge = all_at (IsEdgeAmong graph.nodes) graph.edges among position at.edge at.edge_is in
      let from = get_inside graph.nodes at.edge.from edge.from edge.from_is in
      let to = get_inside graph.nodes at.edge.to edge.to edge.to_is in
      record {
        parent_old = subst (λ (k : ℕ). k < length graph.nodes) at.from from;
        child_old = subst (λ (k : ℕ). k < length graph.nodes) at.to to;
      }

  is_up : (position parent child : ℕ) → IsAstEdgeAt ys position parent child → IsUp (length graph.nodes) (length graph.nodes) parent child
  is_up position parent child at = at_rising (length graph.nodes) high (length graph.nodes) ys position parent child rising at

  path_child : (ancestor position node : ℕ) → Side graph.edges ys position ancestor node → Path graph ancestor node
  path_child ancestor position node (front at) = old (ends_old position ancestor node at).child_old (child_of position node at)
  path_child ancestor position node (behind j is at) = let up = is_up j ancestor node at in new up.low_le up.up

  path_further : (ancestor position parent node : ℕ) → Path graph ancestor parent → Side graph.edges ys position parent node → Path graph ancestor node
  path_further ancestor position parent node (old low above) (front at) = old (ends_old position parent node at).child_old (further position parent node above at)
  path_further ancestor position parent node (old low above) (behind j is at) = let le = (is_up j parent node at).base_le in absurd (omega arith)
  path_further ancestor position parent node (new le up) (front at) = let low = (ends_old position parent node at).parent_old in absurd (omega arith)
  path_further ancestor position parent node (new le up) (behind j is at) =
      let more = is_up j parent node at in
      let later = more.up in
      new more.low_le (omega arith)

  path : (ancestor node : ℕ) → IsAbove (graph.edges ++ ys) ancestor node → Path graph ancestor node
  path ancestor _ (child_of position node at) = path_child ancestor position node (side graph.edges ys position ancestor node at)
  path ancestor _ (further position parent node above at) =
      path_further ancestor position parent node (path ancestor parent above) (side graph.edges ys position parent node at)

  no_path : (node : ℕ) → Path graph node node → ⊥
  no_path node (old low above) = shaped.no_cycle node above
  no_path node (new le up) = omega arith

  one : (i j p q node : ℕ) → Side graph.edges ys i p node → Side graph.edges ys j q node → i ≡ j
  one i j p q node (front x) (front y) = shaped.one_parent i j p q node x y
  one i j p q node (front x) (behind l is y) =
      let low = (ends_old i p node x).child_old in
      let le = (is_up l q node y).low_le in
      absurd (omega arith)
  one i j p q node (behind k is x) (front y) =
      let low = (ends_old j q node y).child_old in
      let le = (is_up k p node x).low_le in
      absurd (omega arith)
  one i j p q node (behind k is x) (behind l is' y) =
      let same = one_rising (length graph.nodes) high (length graph.nodes) ys k l p q node rising x y in
      omega arith

  pub shaped_with : (nodes : List PlainNode) → IsShaped (record { nodes = nodes; edges = graph.edges ++ ys })
  shaped_with nodes = record {
    one_parent = λ first second parent other node x y.
        one first second parent other node (side graph.edges ys first parent node x) (side graph.edges ys second other node y);
    no_cycle = λ node above. no_path node (path node node above);
  }

-- The graph is well formed and shaped.
record IsWhole (graph : PlainGraph) : Type 0 where
  is_graph : IsGraph graph
  shaped : IsShaped graph

shaped_forest : (graph : PlainGraph) (f : Forest) → IsGraph graph → IsShaped graph → IsShaped (applied graph (planted f))
unfolding planted
shaped_forest graph f is_graph shaped =
    let s = length graph.nodes in
    let ys = map (added_edge s) (edges_of None 0 f) in
    let le : s ≤ s + 0 = omega arith in
    shaped_with graph ys (s + 0 + length (nodes_of f)) is_graph.edges shaped
    (lower s (s + 0 + length (nodes_of f)) (s + 0) s ys le (rises s None 0 f tt)) (graph.nodes ++ nodes_of f)

pub planted_shaped : (graph : PlainGraph) (delta : PlainDelta) → IsPlanted delta → IsGraph graph → IsShaped graph → IsShaped (applied graph delta)
planted_shaped graph delta h is_graph shaped =
    subst (λ (d : PlainDelta). IsShaped (applied graph d)) (sym h.is) (shaped_forest graph h.forest is_graph shaped)

pub all_stay_shaped : (caps : Caps) (start : PlainGraph) (delta_of : ℕ → PlainDelta) (parts : ℕ) → ((k : ℕ) → k < parts → IsPlanted (delta_of k)) →
    IsGraph start → IsShaped start → (graph : PlainGraph) → seq caps start delta_of parts ≡ Ok graph → IsShaped graph
all_stay_shaped caps start delta_of parts each is_graph shaped graph is =
    let whole : IsWhole start = record { is_graph = is_graph; shaped = shaped } in
    let kept : (k : ℕ) (g : PlainGraph) → k < parts → IsWhole g → IsWhole (applied g (delta_of k)) = λ k g low h. record {
      is_graph = applied_is_graph g (delta_of k) h.is_graph (planted_fits g (delta_of k) (each k low));
      shaped = planted_shaped g (delta_of k) (each k low) h.is_graph h.shaped;
    } in
    (seq_keeps caps start delta_of IsWhole parts whole kept parts (omega arith) graph is).shaped

not_above : (ancestor node : ℕ) → IsAbove [] ancestor node → ⊥
not_above ancestor _ (child_of position node at) = no_edge position ancestor node at
not_above ancestor _ (further position parent node above at) = no_edge position parent node at

-- the empty graph is shaped
pub empty_shaped : IsShaped (plain_graph [] [])
empty_shaped = record {
  one_parent = λ first second parent other node x y. absurd (no_edge first parent node x);
  no_cycle = not_above_itself;
}
  where
    not_above_itself : (node : ℕ) → IsAbove [] node node → ⊥
    not_above_itself node above = not_above node node above
