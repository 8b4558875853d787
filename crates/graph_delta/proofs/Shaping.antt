-- Edges of other kinds than AST leave the shape of a graph as it is.
use Rattle.std.proofs.Common.{◌≡◌, ℕ, zero, suc, ◌<◌, ◌≤◌, List, [], ◌∷◌, ◌++◌, Some, Ok, length, map, slice_get, refl, sym, subst, arith}
use Rattle.std.specs.List.{All}
use Rattle.std.proofs.lemmas.List.Elements.{All-head, All-tail, All-map}
use Rattle.cpg_schema.specs.declared.caps.Caps.{Caps}
use Rattle.cpg_schema.specs.declared.edge_kind.EdgeKind.TheVariants.{Ast}
use Rattle.cpg_schema.specs.Graph.{PlainEdge, PlainGraph}
use Rattle.cpg_schema.specs.Deltas.{PlainDelta, NewEdge, applied, added_edge}
use Rattle.cpg_schema.specs.Sequence.{seq}
use Rattle.cpg_schema.specs.Shape.{IsAstEdgeAt, IsAbove, child as child_of, descendant, IsShaped}
use Rattle.graph_delta.proofs.Sequencing.{seq_keeps}

all_at : (P : PlainEdge → Type 0) (edges : List PlainEdge) → All P edges → (position : ℕ) (edge : PlainEdge) → slice_get edges position ≡ Some edge → P edge
all_at P [] all position edge is = cc
all_at P (first ∷ rest) all zero edge is = let same : first ≡ edge = cc in subst P same (All-head P first rest all)
all_at P (first ∷ rest) all (suc position) edge is = all_at P rest (All-tail P first rest all) position edge is

module _ (more : List PlainEdge) (others : All (λ (edge : PlainEdge). ¬ (edge.kind ≡ Ast)) more) where
  -- an AST edge stands in front of the others
  ast_in_front : (edges : List PlainEdge) (position parent child : ℕ) → IsAstEdgeAt (edges ++ more) position parent child → IsAstEdgeAt edges position parent child
  ast_in_front [] position parent child h = absurd (all_at (λ (edge : PlainEdge). ¬ (edge.kind ≡ Ast)) more others position h.edge h.edge_is h.kind)
  ast_in_front (first ∷ rest) zero parent child h = record { edge = h.edge; edge_is = h.edge_is; kind = h.kind; from = h.from; to = h.to }
  ast_in_front (first ∷ rest) (suc position) parent child h =
      let later : IsAstEdgeAt (rest ++ more) position parent child = record { edge = h.edge; edge_is = h.edge_is; kind = h.kind; from = h.from; to = h.to } in
      let there = ast_in_front rest position parent child later in
      record { edge = there.edge; edge_is = there.edge_is; kind = there.kind; from = there.from; to = there.to }

  above_in_front : (edges : List PlainEdge) (ancestor node : ℕ) → IsAbove (edges ++ more) ancestor node → IsAbove edges ancestor node
  above_in_front edges ancestor _ (child_of position node at) = child_of position node (ast_in_front edges position ancestor node at)
  above_in_front edges ancestor _ (descendant position parent node above at) =
      descendant position parent node (above_in_front edges ancestor parent above) (ast_in_front edges position parent node at)

-- a shaped graph with a delta that adds no AST edge
shaped_more : (graph : PlainGraph) (delta : PlainDelta) → All (λ (edge : NewEdge). ¬ (edge.kind ≡ Ast)) delta.edges → IsShaped graph → IsShaped (applied graph delta)
shaped_more graph delta others h =
    let count = length graph.nodes in
    let more = map (added_edge count) delta.edges in
    let all : All (λ (edge : PlainEdge). ¬ (edge.kind ≡ Ast)) more = All-map (λ (edge : PlainEdge). ¬ (edge.kind ≡ Ast)) (added_edge count) delta.edges others in
    record {
      one_parent = λ first second parent other node one two.
          h.one_parent first second parent other node (ast_in_front more all graph.edges first parent node one) (ast_in_front more all graph.edges second other node two);
      no_cycle = λ node above. h.no_cycle node (above_in_front more all graph.edges node node above);
    }

-- a pass that adds no AST edge keeps a graph shaped
pub stays_shaped : (caps : Caps) (start : PlainGraph) (delta_of : ℕ → PlainDelta) (parts : ℕ) → IsShaped start →
    ((k : ℕ) → k < parts → All (λ (edge : NewEdge). ¬ (edge.kind ≡ Ast)) (delta_of k).edges) →
    (graph : PlainGraph) → seq caps start delta_of parts ≡ Ok graph → IsShaped graph
stays_shaped caps start delta_of parts shaped others graph is =
    seq_keeps caps start delta_of IsShaped parts shaped (λ k g below. shaped_more g (delta_of k) (others k below)) parts (omega arith) graph is
