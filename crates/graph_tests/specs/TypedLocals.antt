-- The pass of the tests: what a part adds, that it fits, and that it keeps a graph shaped.
use Rattle.std.specs.Prelude.{
  ℕ,
  ◌≡◌,
  ◌+◌,
  ◌<◌,
  List,
  [],
  ◌∷◌,
  ◌++◌,
  ◌==◌,
  Bool,
  Some,
  Ok,
  length,
  refl,
}
use borrow.Author.Tests.{clash}
use Rattle.std.proofs.Common.{ap, inr}
use Rattle.std.specs.List.{All}
use Rattle.std.proofs.lemmas.List.Elements.{All-nil, All-cons}
use Rattle.cpg_schema.specs.declared.caps.Caps.{Caps}
use Rattle.cpg_schema.specs.declared.key.Key.TheVariants as key
use Rattle.cpg_schema.specs.declared.label.Label.TheVariants as label
use Rattle.cpg_schema.specs.declared.edge_kind.EdgeKind.{EdgeKind}
use Rattle.cpg_schema.specs.declared.edge_kind.EdgeKind.TheVariants as edge_kind
use Rattle.cpg_schema.specs.declared.end.End.TheVariants.{New}
use Rattle.cpg_schema.specs.Names.{kind_rank}
use Rattle.cpg_schema.specs.Graph.{PlainNode, PlainGraph, bare_node}
use Rattle.cpg_schema.specs.Properties.{with_number}
use Rattle.cpg_schema.specs.Deltas.{NewEdge, PlainDelta, added_edge}
use Rattle.cpg_schema.specs.Fitting.{Fits, IsEdgeAmong, IsOldEnd, PartsFit}
use Rattle.cpg_schema.proofs.Apart.{apart_none, parts_fit_alone}
use Rattle.cpg_schema.specs.Sequence.{seq}
use Rattle.cpg_schema.specs.Shape.{IsShaped}
use Rattle.graph_delta.proofs.Fitting.{get_behind}
use Rattle.graph_delta.proofs.Shaping.{stays_shaped}

-- The edge from a new local to its type.
abbrev pub type_edge : NewEdge
type_edge = record { from = New 0; kind = edge_kind.EvalType; to = New 1; variable = [] }

-- A local with its type, where the local's order is this count.
abbrev pub typed_local : ℕ → PlainDelta
typed_local count = record {
  nodes = with_number key.Order count (bare_node label.Local) ∷ bare_node label.TypeNode ∷ [];
  edges = type_edge ∷ [];
  settings = [];
}

-- It fits every graph.
typed_local_fits : (graph : PlainGraph) (count : ℕ) → Fits graph (typed_local count)
typed_local_fits graph count =
    let new : List PlainNode = (typed_local count).nodes in
    let first = length graph.nodes in
    let among : IsEdgeAmong (graph.nodes ++ new) (added_edge first type_edge) = record {
      from = with_number key.Order count (bare_node label.Local);
      from_is = get_behind graph.nodes new (first + 0) 0 refl;
      to = bare_node label.TypeNode;
      to_is = get_behind graph.nodes new (first + 1) 1 refl;
      allowed = refl;
      variable = inr refl;
    } in
    record {
      old_from =
          All-cons (λ (edge : NewEdge). IsOldEnd first edge.from) type_edge [] tt (All-nil _);
      old_to = All-cons (λ (edge : NewEdge). IsOldEnd first edge.to) type_edge [] tt (All-nil _);
      allowed =
          All-cons (IsEdgeAmong (graph.nodes ++ new)) (added_edge first type_edge) [] among
          (All-nil _);
      settings = All-nil _;
      apart = apart_none;
    }

-- So do several of them.
pub typed_locals_fit : (start : PlainGraph) (count parts : ℕ) →
    PartsFit start (λ (part : ℕ). typed_local count) parts
typed_locals_fit start count parts =
    parts_fit_alone start (λ (part : ℕ). typed_local count) parts (λ k low. refl)
    (λ k low. typed_local_fits start count)

-- And it adds no AST edge.
pub stays_shaped_by : (caps : Caps) (start : PlainGraph) (count parts : ℕ) → IsShaped start →
    (graph : PlainGraph) → seq caps start (λ (part : ℕ). typed_local count) parts ≡ Ok graph →
    IsShaped graph
stays_shaped_by caps start count parts shaped graph is =
    let is_ast : EdgeKind → Bool = λ kind. kind_rank kind == 0 in
    let other : ¬ (edge_kind.EvalType ≡ edge_kind.Ast) = λ same. clash (ap is_ast same) in
    stays_shaped caps start (λ (part : ℕ). typed_local count) parts shaped
    (λ k low. All-cons (λ (edge : NewEdge). ¬ (edge.kind ≡ edge_kind.Ast)) type_edge [] other
    (All-nil _)) graph is
