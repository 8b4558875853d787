-- A delta of one edge between two nodes that the schema allows fits the graph, for tests.
use Rattle.std.proofs.Common.{◌≡◌, ℕ, ◌<◌, IsTrue, List, [], ◌∷◌, ◌++◌, Option, Some, None, length, map, slice_get, refl, sym, subst, ◌∙◌}
use Rattle.std.specs.List.{All}
use Rattle.std.specs.Option.{option_map}
use Rattle.std.proofs.lemmas.List.{append-nil}
use Rattle.std.proofs.lemmas.List.Elements.{All-nil, All-cons}
use Rattle.cpg_schema.specs.declared.label.Label.{Label}
use Rattle.cpg_schema.specs.declared.edge_kind.EdgeKind.{EdgeKind}
use Rattle.cpg_schema.specs.declared.end.End.TheVariants.{Old}
use Rattle.cpg_schema.specs.Graph.{PlainNode, PlainEdge, PlainGraph, IsVariableOf}
use Rattle.cpg_schema.specs.Schema.{allows}
use Rattle.cpg_schema.specs.Deltas.{NewEdge, PlainDelta, added_edge}
use Rattle.cpg_schema.specs.Fitting.{Fits, IsEdgeAmong, IsOldEnd}
use Rattle.cpg_schema.proofs.Apart.{apart_none}

-- the node at a number, by its label
record HasLabel (nodes : List PlainNode) (id : ℕ) (label : Label) : Type 0 where
  node : PlainNode
  node_is : slice_get nodes id ≡ Some node
  label_is : node.label ≡ label

has_label : (nodes : List PlainNode) (id : ℕ) (label : Label) → option_map (λ (node : PlainNode). node.label) (slice_get nodes id) ≡ Some label → HasLabel nodes id label
has_label nodes id label is = by (slice_get nodes id) refl is
  where
    by : (o : Option PlainNode) → slice_get nodes id ≡ o → option_map (λ (node : PlainNode). node.label) o ≡ Some label → HasLabel nodes id label
    by None e is = absurd (cc)
    by (Some node) e is = record { node = node; node_is = e; label_is = cc }

pub one_edge_fits : (graph : PlainGraph) (from to : ℕ) (kind : EdgeKind) (variable : List ℕ) (start end : Label) → from < length graph.nodes → to < length graph.nodes →
    option_map (λ (node : PlainNode). node.label) (slice_get graph.nodes from) ≡ Some start → option_map (λ (node : PlainNode). node.label) (slice_get graph.nodes to) ≡ Some end →
    IsTrue (allows kind start end) → IsVariableOf kind variable →
    Fits graph (record { nodes = []; edges = record { from = Old from; kind = kind; to = Old to; variable = variable } ∷ []; settings = [] })
one_edge_fits graph from to kind variable start end low high start_is end_is allowed named =
    let edge : NewEdge = record { from = Old from; kind = kind; to = Old to; variable = variable } in
    let s = has_label graph.nodes from start start_is in
    let e = has_label graph.nodes to end end_is in
    let same = sym (append-nil graph.nodes) in
    let among : IsEdgeAmong (graph.nodes ++ []) (added_edge (length graph.nodes) edge) = record {
      from = s.node;
      from_is = subst (λ (nodes : List PlainNode). slice_get nodes from ≡ Some s.node) same s.node_is;
      to = e.node;
      to_is = subst (λ (nodes : List PlainNode). slice_get nodes to ≡ Some e.node) same e.node_is;
      allowed = rw (s.label_is, e.label_is) allowed;
      variable = named;
    } in
    record {
      old_from = All-cons (λ (edge : NewEdge). IsOldEnd (length graph.nodes) edge.from) edge [] low (All-nil _);
      old_to = All-cons (λ (edge : NewEdge). IsOldEnd (length graph.nodes) edge.to) edge [] high (All-nil _);
      allowed = All-cons (IsEdgeAmong (graph.nodes ++ [])) (added_edge (length graph.nodes) edge) [] among (All-nil _);
      settings = All-nil _;
      apart = apart_none;
    }
