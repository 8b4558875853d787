-- What is so of the units of a graph, of its nodes and of the edges that they add.
use Rattle.std.proofs.Common.{◌≡◌, ℕ, zero, suc, ◌+◌, ◌-◌, ◌<◌, Bool, true, false, List, [], ◌∷◌, ◌++◌, Option, Some, None, length, slice_index, if◌then◌else◌, refl, ap, sym, subst, arith}
use Rattle.std.specs.List.{All, flat_map}
use Rattle.std.specs.List.Sorted.{IsStrictlyIncreasing}
use Rattle.std.proofs.lemmas.Bool.{and_parts}
use Rattle.std.proofs.lemmas.List.FromFn.{get_or-range_with_len, length-range_with_len}
use Rattle.std.proofs.lemmas.List.Kept.{IsStrictlyIncreasing-filter}
use Rattle.std.proofs.lemmas.List.Elements.{All-nil, All-cons, All-append, All-filter, filter_passes}
use Rattle.cpg_schema.specs.declared.label.Label.{Label}
use Rattle.cpg_schema.specs.declared.label.Label.TheVariants as label
use Rattle.cpg_schema.specs.declared.edge_kind.EdgeKind.{EdgeKind}
use Rattle.cpg_schema.specs.declared.edge_kind.EdgeKind.TheVariants.{Ast, SourceFile, Contains, ParameterLink}
use Rattle.cpg_schema.specs.declared.end.End.TheVariants as end
use Rattle.cpg_schema.specs.Names.{kind_rank}
use Rattle.cpg_schema.specs.Graph.{PlainGraph}
use Rattle.cpg_schema.specs.Deltas.{NewEdge}
use Rattle.cpg_schema.specs.Fitting.{IsGraph}
use Rattle.cpg_schema.specs.Shape.{IsAstEdgeAt}
use Rattle.graph_parts.specs.NodesAbove.{method_at, parent_at}
use Rattle.graph_parts.proofs.Depth.{ends_of, found, missing}
use Rattle.graph_parts.proofs.Tree.{child_at}
use Rattle.unit_rules.specs.Units.{all_nodes, is_global, is_missing, is_unit, label_at, units}
use Rattle.unit_rules.specs.UnitEdges.{edge_between, from_source, has_body, in_file, in_method, label_edges, member_edges}

pub low_nodes : (graph : PlainGraph) → All (λ (node : ℕ). node < length graph.nodes) (all_nodes graph)
low_nodes graph k d low =
    let count = length graph.nodes in
    let size = length-range_with_len 0 count in
    let inside : k < count = omega arith in
    let is = get_or-range_with_len 0 count k d inside in
    omega arith

increasing_nodes : (graph : PlainGraph) → IsStrictlyIncreasing (all_nodes graph)
increasing_nodes graph k low =
    let count = length graph.nodes in
    let size = length-range_with_len 0 count in
    let first : k < count = omega arith in
    let second : k + 1 < count = omega arith in
    let one = get_or-range_with_len 0 count k 0 first in
    let two = get_or-range_with_len 0 count (k + 1) 0 second in
    omega arith

far : (xs : List ℕ) → IsStrictlyIncreasing xs → (i gap : ℕ) → i + suc gap < length xs → slice_index xs i < slice_index xs (i + suc gap)
far xs rising i zero low = let e : i + suc zero ≡ i + 1 = omega arith in subst (λ (k : ℕ). slice_index xs i < slice_index xs k) (sym e) (rising i (omega arith))
far xs rising i (suc gap) low =
    let before = far xs rising i gap (omega arith) in
    let e : i + suc (suc gap) ≡ i + suc gap + 1 = omega arith in
    let last = rising (i + suc gap) (omega arith) in
    subst (λ (k : ℕ). slice_index xs i < slice_index xs k) (sym e) (omega arith)

-- The units rise.
pub units_rise : (graph : PlainGraph) (i j : ℕ) → i < j → j < length (units graph) → slice_index (units graph) i < slice_index (units graph) j
units_rise graph i j less low =
    let rising = IsStrictlyIncreasing-filter (is_unit graph) (all_nodes graph) (increasing_nodes graph) in
    gap (j - suc i) (omega arith) rising
  where
    gap : (d : ℕ) → i + suc d ≡ j → IsStrictlyIncreasing (units graph) → slice_index (units graph) i < slice_index (units graph) j
    gap d e rising = subst (λ (k : ℕ). slice_index (units graph) i < slice_index (units graph) k) e (far (units graph) rising i d (omega arith))

-- A unit is a node of the graph to which no AST edge leads.
pub unit_low : (graph : PlainGraph) (k : ℕ) → k < length (units graph) → slice_index (units graph) k < length graph.nodes
unit_low graph k low = All-filter (is_unit graph) (λ (node : ℕ). node < length graph.nodes) (all_nodes graph) (low_nodes graph) k 0 low

pub unit_passes : (graph : PlainGraph) (k : ℕ) → k < length (units graph) → is_unit graph (slice_index (units graph) k) ≡ true
unit_passes graph k low = filter_passes (is_unit graph) (all_nodes graph) k 0 low

missing_is : (found : Option ℕ) → is_missing found ≡ true → found ≡ None
missing_is None is = refl
missing_is (Some number) is = cc

pub unit_top : (graph : PlainGraph) (k : ℕ) → k < length (units graph) → (position parent : ℕ) → ¬ IsAstEdgeAt graph.edges position parent (slice_index (units graph) k)
unit_top graph k low =
    let unit = slice_index (units graph) k in
    let parts = and_parts (is_global graph unit) (is_missing (parent_at graph unit)) (unit_passes graph k low) in
    missing graph.edges unit (missing_is (parent_at graph unit) parts.1)

-- The parent of a node is a node.
pub parent_low : (graph : PlainGraph) → IsGraph graph → (node parent : ℕ) → parent_at graph node ≡ Some parent → parent < length graph.nodes
parent_low graph is_graph node parent is =
    let there = found graph.edges node parent is in
    (ends_of graph is_graph Ast parent node (child_at graph there.0 parent node there.1)).from_low

-- The nodes of a unit add no AST edge.
is_ast : EdgeKind → Bool
is_ast kind = eqb_rank (kind_rank kind)
  where
    eqb_rank : ℕ → Bool
    eqb_rank zero = true
    eqb_rank (suc n) = false

abbrev pub IsOther : NewEdge → Type 0
IsOther edge = ¬ (edge.kind ≡ Ast)

pub source_other : ¬ (SourceFile ≡ Ast)
unfolding is_ast
source_other same = let e : is_ast SourceFile ≡ is_ast Ast = ap is_ast same in cc

pub contains_other : ¬ (Contains ≡ Ast)
unfolding is_ast
contains_other same = let e : is_ast Contains ≡ is_ast Ast = ap is_ast same in cc

pub link_other : ¬ (ParameterLink ≡ Ast)
unfolding is_ast
link_other same = let e : is_ast ParameterLink ≡ is_ast Ast = ap is_ast same in cc

in_file_other : (node : ℕ) → All IsOther (in_file node ∷ [])
in_file_other node = All-cons IsOther (in_file node) [] contains_other (All-nil IsOther)

body_other : (node : ℕ) (body : Bool) → All IsOther ((if body then from_source node ∷ [] else []) ++ in_file node ∷ [])
body_other node true = All-cons IsOther (from_source node) (in_file node ∷ []) source_other (in_file_other node)
body_other node false = in_file_other node

method_other : (method : Option ℕ) (call : ℕ) → All IsOther (in_method method call)
method_other None call = All-nil IsOther
method_other (Some method) call = All-cons IsOther (edge_between (end.Old method) Contains (end.Old call)) [] contains_other (All-nil IsOther)

label_other : (graph : PlainGraph) (node : ℕ) (at : Option Label) → All IsOther (label_edges graph node at)
label_other graph node (Some label.Method) = body_other node (has_body graph node)
label_other graph node (Some label.TypeDecl) = All-cons IsOther (from_source node) (in_file node ∷ []) source_other (in_file_other node)
label_other graph node (Some label.Call) = method_other (method_at graph node) node
label_other graph node _ = All-nil IsOther

pub members_other : (graph : PlainGraph) (nodes : List ℕ) → All IsOther (flat_map (member_edges graph) nodes)
members_other graph [] = All-nil IsOther
members_other graph (node ∷ nodes) =
    All-append IsOther (member_edges graph node) (flat_map (member_edges graph) nodes) (label_other graph node (label_at graph node)) (members_other graph nodes)
