-- The ends of a graph's edges are its nodes, and so are those of what an index lends.
use Rattle.std.proofs.Common.{ℕ, ◌<◌, ◌==◌, ◌&&◌, List, [], ◌∷◌, length, map}
use Rattle.std.specs.List.{All}
use Rattle.std.proofs.lemmas.List.Elements.{All-nil, All-cons, All-head, All-tail, All-filter}
use Rattle.std.proofs.lemmas.List.Sorted.{All-permutation}
use Rattle.std.proofs.lemmas.Option.{slice_get_within}
use Rattle.cpg_schema.specs.Names.{kind_rank}
use Rattle.cpg_schema.specs.Graph.{PlainNode}
use Rattle.cpg_schema.specs.Fitting.{IsEdgeAmong}
use Rattle.graph_store.specs.declared.edge.Edge.{Edge}
use Rattle.graph_store.specs.Stored.{StoredGraph, IsStored, plain_edge}
use Rattle.edge_index.specs.Indexed.{Indexed, IsIndexOf, IsWithin, LendsWithin}

pub from_within : (names : List (List ℕ)) (nodes : List PlainNode) (edges : List Edge) → All (IsEdgeAmong nodes) (map (plain_edge names) edges) →
    All (λ (e : Edge). e.from < length nodes) edges
from_within names nodes [] all = All-nil (λ (e : Edge). e.from < length nodes)
from_within names nodes (e ∷ edges) all =
    let one = All-head (IsEdgeAmong nodes) (plain_edge names e) (map (plain_edge names) edges) all in
    All-cons (λ (e : Edge). e.from < length nodes) e edges (slice_get_within nodes e.from one.from one.from_is)
    (from_within names nodes edges (All-tail (IsEdgeAmong nodes) (plain_edge names e) (map (plain_edge names) edges) all))

pub to_within : (names : List (List ℕ)) (nodes : List PlainNode) (edges : List Edge) → All (IsEdgeAmong nodes) (map (plain_edge names) edges) →
    All (λ (e : Edge). e.to < length nodes) edges
to_within names nodes [] all = All-nil (λ (e : Edge). e.to < length nodes)
to_within names nodes (e ∷ edges) all =
    let one = All-head (IsEdgeAmong nodes) (plain_edge names e) (map (plain_edge names) edges) all in
    All-cons (λ (e : Edge). e.to < length nodes) e edges (slice_get_within nodes e.to one.to one.to_is)
    (to_within names nodes edges (All-tail (IsEdgeAmong nodes) (plain_edge names e) (map (plain_edge names) edges) all))

-- What an index lends has nodes and names of its graph.
pub lends_within : (graph : StoredGraph) (index : Indexed) → IsStored graph → IsIndexOf graph index → LendsWithin graph index
lends_within graph index stored h =
    let own = IsWithin (length graph.nodes) (length graph.names) in
    let among = stored.is_graph.edges in
    let all : All own graph.edges = λ k d low. record {
      from = from_within graph.names graph.nodes graph.edges among k d low;
      to = to_within graph.names graph.nodes graph.edges among k d low;
      variable = (stored.variables k d low).pooled;
    } in
    let leaving = All-permutation own graph.edges index.leaving h.leaving.same all in
    let arriving = All-permutation own graph.edges index.arriving h.arriving.same all in
    record {
      edges = leaving;
      out = λ id kind. All-filter (λ (e : Edge). (e.from == id) && (kind_rank e.kind == kind_rank kind)) own index.leaving leaving;
      into = λ id kind. All-filter (λ (e : Edge). (e.to == id) && (kind_rank e.kind == kind_rank kind)) own index.arriving arriving;
    }
