-- The edges of a graph, read one by one.
use Rattle.std.proofs.Common.{◌≡◌, ℕ, ◌+◌, ◌<◌, ◌&&◌, Bool, false, List, [], ◌∷◌, ◌++◌, get_or, slice_get, length, map, take, ap, sym, ◌∙◌, arith, ne_eqb}
use Rattle.std.proofs.lemmas.List.{get_or-map, length-map, take_more}
use Rattle.std.proofs.lemmas.Option.{slice_get_within}
use Rattle.cpg_schema.specs.declared.edge_kind.EdgeKind.TheVariants.{Ast}
use Rattle.cpg_schema.specs.Names.{kind_rank}
use Rattle.cpg_schema.specs.Graph.{PlainEdge}
use Rattle.cpg_schema.specs.Fitting.{IsGraph}
use Rattle.graph_store.specs.declared.edge.Edge.{Edge}
use Rattle.graph_store.specs.Stored.{StoredGraph, plain, plain_edge}
use Rattle.edge_index.proofs.Counting.{no_edge}
use Rattle.graph_parts.proofs.KindRank.{kind_from_rank}
use Rattle.unit_rules.specs.Units.{is_global, is_inner}

-- An edge as the plain graph shows it.
abbrev pub shown_edge : StoredGraph → List Edge → ℕ → PlainEdge
shown_edge graph edges k = plain_edge graph.names (get_or edges k no_edge)

shown_is : (graph : StoredGraph) (edges : List Edge) → edges ≡ graph.edges → (k : ℕ) (d : PlainEdge) → k < length edges → get_or (plain graph).edges k d ≡ shown_edge graph edges k
shown_is graph edges is k d low =
    ap (λ (es : List Edge). get_or (map (plain_edge graph.names) es) k d) (sym is) ∙ get_or-map (plain_edge graph.names) edges k no_edge d low

all_shown : (graph : StoredGraph) (edges : List Edge) → edges ≡ graph.edges → length (plain graph).edges ≡ length edges
all_shown graph edges is = length-map graph.edges (plain_edge graph.names) ∙ ap length (sym is)

pub edges_next : (graph : StoredGraph) (edges : List Edge) → edges ≡ graph.edges → (k : ℕ) → k < length edges →
    take (k + 1) (plain graph).edges ≡ take k (plain graph).edges ++ shown_edge graph edges k ∷ []
edges_next graph edges is k low =
    let d = plain_edge graph.names no_edge in
    let size = all_shown graph edges is in
    take_more (plain graph).edges k d (omega arith) ∙ ap (λ (e : PlainEdge). take k (plain graph).edges ++ e ∷ []) (shown_is graph edges is k d low)

pub edge_low : (graph : StoredGraph) → IsGraph (plain graph) → (edges : List Edge) → edges ≡ graph.edges → (k : ℕ) → k < length edges → (get_or edges k no_edge).to < length graph.nodes
edge_low graph is_graph edges is k low =
    let d = plain_edge graph.names no_edge in
    let size = all_shown graph edges is in
    let there = is_graph.edges k d (omega arith) in
    let to = ap (λ (e : PlainEdge). e.to) (shown_is graph edges is k d low) in
    slice_get_within graph.nodes (get_or edges k no_edge).to there.to (ap (slice_get graph.nodes) (sym to) ∙ there.to_is)

-- An edge of another kind is not one to a METHOD named `<global>`.
pub other_kind : (graph : StoredGraph) (edge : Edge) → ¬ (edge.kind ≡ Ast) → is_inner (plain graph) (plain_edge graph.names edge) ≡ false
other_kind graph edge other =
    ap (λ (b : Bool). b && is_global (plain graph) edge.to) (ne_eqb (kind_rank edge.kind) (kind_rank Ast) (λ same. other (kind_from_rank edge.kind Ast same)))
