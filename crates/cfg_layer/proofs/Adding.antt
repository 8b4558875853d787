-- What the functions of a graph add fits it, and leaves it shaped.
use Rattle.std.proofs.Common.{ℕ, zero, suc, ◌≡◌, ◌+◌, ◌<◌, inl, inr, Bool, true, false, cond, List, [], ◌∷◌, ◌++◌, Option, Some, None, Ok, map, slice_get, length, get_or, refl, sym, subst, arith, IsTrue}
use Rattle.std.specs.Prelude.{◌==◌, ◌&&◌, not, ◌↔◌}
use Rattle.std.specs.List.{All, Contains}
use Rattle.std.proofs.lemmas.List.{append-nil}
use Rattle.std.proofs.lemmas.List.Elements.{All-map, All-nil}
use Rattle.std.proofs.lemmas.Option.{slice_get-get_or, get_or_from_slice_get}
use Rattle.cpg_schema.specs.declared.label.Label.{Label}
use Rattle.cpg_schema.specs.declared.label.Label.TheVariants as label
use Rattle.cpg_schema.specs.declared.edge_kind.EdgeKind.TheVariants.{Ast, Cfg}
use Rattle.cpg_schema.specs.declared.caps.Caps.{Caps}
use Rattle.cpg_schema.specs.Graph.{PlainGraph, PlainNode}
use Rattle.cpg_schema.specs.Schema.{allows, is_among, step}
use Rattle.cpg_schema.specs.Deltas.{NewEdge, added_edge, empty_delta}
use Rattle.cpg_schema.specs.Fitting.{Fits, IsEdgeAmong, IsGraph, IsOldEnd, PartsFit}
use Rattle.cpg_schema.specs.Sequence.{seq}
use Rattle.cpg_schema.specs.Shape.{IsShaped}
use Rattle.cpg_schema.proofs.Apart.{apart_none}
use Rattle.graph_delta.proofs.Shaping.{stays_shaped}
use Rattle.graph_parts.specs.Finds.{Finds}
use Rattle.graph_parts.specs.Parts.{HasLabel, IsChildOf, IsNodeWith}
use Rattle.cfg_rules.specs.Member.{IsIn}
use Rattle.cfg_rules.specs.Plan.{Construct, Breaks, BreaksAt, Continues, ContinuesAt, end_of, end_at}
use Rattle.cfg_flow.specs.Edges.{AreFlow}
use Rattle.cfg_edges.specs.Edges.{IsWithin}
use Rattle.cfg_edges.proofs.Bools.{both_and, or_left}
use Rattle.cfg_edges.proofs.Rising.{edges_are_flow}
use Rattle.cfg_layer.specs.Kinds.{Kind, kind_of}
use Rattle.cfg_layer.specs.Walked.{HasBody}
use Rattle.cfg_layer.specs.Plans.{AreFlowOf, IsPlanOf}
use Rattle.cfg_layer.specs.Tested.{block_at, is_method, is_none, is_walked, return_at}
use Rattle.cfg_layer.specs.Planned.{all_from, construct_of, flow_of, function_construct, other_construct, plan_of, walked_construct}
use Rattle.cfg_layer.specs.Adds.{added_by, cfg_edge, flow_delta, has_body, methods_of, part_delta}
use Rattle.cfg_layer.proofs.Telling.{Tells, tells_as, tells_both, tells_node, node_within, block_found, return_found}
use Rattle.cfg_layer.proofs.Walking.{tells_method}
use Rattle.cfg_layer.proofs.Planning.{all_tell, is_plan_of, planned}
use Rattle.cfg_layer.proofs.Marking.{IsFrom, IsTo, flows_among}

-- ---- The plan speaks of nodes alone.

all_high : (test : ℕ → Bool) (x count y : ℕ) → IsIn (all_from test x count) y → y < x + count
unfolding all_from IsIn
all_high test x zero y i = absurd i
all_high test x (suc count) y i = by (test x) (all_high test (x + 1) count y) i where
  by : (b : Bool) → (IsIn (all_from test (x + 1) count) y → y < (x + 1) + count) → IsIn (cond b (x ∷ all_from test (x + 1) count) (all_from test (x + 1) count)) y → y < x + suc count
  by true rest (inl same) = omega arith
  by true rest (inr j) = let l : y < (x + 1) + count = rest j in omega arith
  by false rest j = let l : y < (x + 1) + count = rest j in omega arith

-- A construct whose jumps and end are among so many nodes.
record IsLow (count : ℕ) (c : Construct) : Type 0 where
  ends : (end : ℕ) → c.method_return ≡ Some end → end < count
  breaks : (a : ℕ) → IsIn c.breaks a → a < count
  continues : (a : ℕ) → IsIn c.continues a → a < count

return_low : (graph : PlainGraph) (method end : ℕ) → return_at graph method ≡ Some end → end < length graph.nodes
return_low graph method end e = let h : IsChildOf graph label.MethodReturn method end = subst (Finds (IsChildOf graph label.MethodReturn method)) e (return_found graph method) in node_within graph _ end h.is.is_node

nothing : (count a : ℕ) → IsIn {X = ℕ} [] a → a < count
unfolding IsIn
nothing count a i = absurd i

function_low : (graph : PlainGraph) (method : ℕ) → IsLow (length graph.nodes) (function_construct graph method)
function_low graph method = record { ends = return_low graph method; breaks = nothing (length graph.nodes); continues = nothing (length graph.nodes) }

walked_low : (graph : PlainGraph) (method x : ℕ) (kind : Kind) → IsLow (length graph.nodes) (walked_construct graph method x kind)
walked_low graph method x kind = record { ends = return_low graph method; breaks = λ a i. (let l : a < 0 + length graph.nodes = all_high _ 0 (length graph.nodes) a i in omega arith); continues = λ a i. (let l : a < 0 + length graph.nodes = all_high _ 0 (length graph.nodes) a i in omega arith) }

other_low : (graph : PlainGraph) (method : ℕ) → IsLow (length graph.nodes) (other_construct graph method)
other_low graph method = record { ends = return_low graph method; breaks = nothing (length graph.nodes); continues = nothing (length graph.nodes) }

low : (graph : PlainGraph) (method x : ℕ) (at : PlainNode) → IsLow (length graph.nodes) (construct_of graph method x at)
unfolding construct_of
low graph method x at = by (x == method) (is_walked graph method x) where
  by : (b d : Bool) → IsLow (length graph.nodes) (cond b (function_construct graph method) (cond d (walked_construct graph method x (kind_of at)) (other_construct graph method)))
  by true d = function_low graph method
  by false true = walked_low graph method x (kind_of at)
  by false false = other_low graph method

low_at : (graph : PlainGraph) (method x : ℕ) (c : Construct) → slice_get (plan_of graph method) x ≡ Some c → IsLow (length graph.nodes) c
low_at graph method x c e = by (planned graph method x c e) where
  by : (at : PlainNode) × (slice_get graph.nodes x ≡ Some at) × (c ≡ construct_of graph method x at) → IsLow (length graph.nodes) c
  by (at, is, f) = subst (IsLow (length graph.nodes)) (sym f) (low graph method x at)

pub plan_within : (graph : PlainGraph) (method : ℕ) → length (plan_of graph method) ≡ length graph.nodes → IsWithin (length graph.nodes) (plan_of graph method)
unfolding end_of Breaks Continues
plan_within graph method count = record {
  constructs = omega (arith, count);
  ends = λ x end e. ends x end (slice_get (plan_of graph method) x) refl e;
  breaks = λ x a b. breaks x a (slice_get (plan_of graph method) x) refl b;
  continues = λ x a k b. continues x a k (slice_get (plan_of graph method) x) refl b;
} where
  ends : (x end : ℕ) (o : Option Construct) → slice_get (plan_of graph method) x ≡ o → end_at o ≡ Some end → end < length graph.nodes
  ends x end None s e = cc
  ends x end (Some c) s e = (low_at graph method x c s).ends end e

  breaks : (x a : ℕ) (o : Option Construct) → slice_get (plan_of graph method) x ≡ o → BreaksAt o a → a < length graph.nodes
  breaks x a None s b = absurd b
  breaks x a (Some c) s b = (low_at graph method x c s).breaks a b.0

  continues : (x a k : ℕ) (o : Option Construct) → slice_get (plan_of graph method) x ≡ o → ContinuesAt o a k → a < length graph.nodes
  continues x a k None s b = absurd b
  continues x a k (Some c) s b = (low_at graph method x c s).continues a b.0

flow_is : (graph : PlainGraph) (method : ℕ) → IsPlanOf graph method (plan_of graph method) → AreFlow (plan_of graph method) (flow_of graph method)
flow_is graph method p = edges_are_flow (plan_of graph method) (length graph.nodes) (plan_within graph method p.count)

pub are_flow_of : (graph : PlainGraph) (method : ℕ) → IsGraph graph → IsShaped graph → HasBody graph method → AreFlowOf graph method (flow_of graph method)
are_flow_of graph method g shaped h = let p = is_plan_of graph method g shaped h in record { plan = plan_of graph method; plan_is = p; flow = flow_is graph method p }

-- ---- The METHODs with a body.

body_of : (graph : PlainGraph) (method : ℕ) → IsNodeWith graph (HasLabel label.Method) method → not (is_none (block_at graph method)) ≡ true → HasBody graph method
body_of graph method m e = by (block_at graph method) (block_found graph method) e where
  by : (o : Option ℕ) → Finds (IsChildOf graph label.Block method) o → not (is_none o) ≡ true → HasBody graph method
  by None n e = cc
  by (Some body) b e = record { is_method = m; body = body; body_is = b }

has_block : (graph : PlainGraph) (method : ℕ) → HasBody graph method → not (is_none (block_at graph method)) ≡ true
has_block graph method h = by (block_at graph method) (block_found graph method) where
  by : (o : Option ℕ) → Finds (IsChildOf graph label.Block method) o → not (is_none o) ≡ true
  by None n = absurd (n h.body h.body_is)
  by (Some body) b = refl

tells_body : (graph : PlainGraph) (method : ℕ) → Tells (has_body graph method) (HasBody graph method)
tells_body graph method =
    let m = tells_node graph is_method (HasLabel label.Method) method tells_method in
    let one = tells_both m (record { yes = λ e. e; told = λ e. e }) in
    tells_as one (λ h. body_of graph method h.0 h.1) (λ h. (h.is_method, has_block graph method h))

pub methods_are : (graph : PlainGraph) (method : ℕ) → IsIn (methods_of graph) method ↔ HasBody graph method
unfolding methods_of
methods_are graph method = all_tell graph (has_body graph) (HasBody graph) (tells_body graph) (λ y h. node_within graph (HasLabel label.Method) y h.is_method) method

in_at : (xs : List ℕ) (k x : ℕ) → slice_get xs k ≡ Some x → IsIn xs x
unfolding IsIn
in_at [] k x e = cc
in_at (y ∷ xs) zero x e = inl (let f : y ≡ x = cc in f)
in_at (y ∷ xs) (suc k) x e = inr (in_at xs k x e)

-- ---- The schema.

from_label : (graph : PlainGraph) (method a : ℕ) → HasBody graph method → IsFrom graph method a → IsNodeWith graph (λ at. is_among at.label (label.Method ∷ step) ≡ true) a
from_label graph method a h (inl s) = subst (IsNodeWith graph (λ at. is_among at.label (label.Method ∷ step) ≡ true)) (sym s) (record { node = h.is_method.node; node_is = h.is_method.node_is; has = subst (λ (l : Label). is_among l (label.Method ∷ step) ≡ true) (sym h.is_method.has) refl })
from_label graph method a h (inr n) = record { node = n.node; node_is = n.node_is; has = by n.node.label n.has } where
  by : (l : Label) → is_among l step ≡ true → is_among l (label.Method ∷ step) ≡ true
  by label.Method e = refl
  by label.Call e = refl
  by label.Identifier e = refl
  by label.Literal e = refl
  by label.FieldIdentifier e = refl
  by label.Return e = refl
  by label.ControlStructure e = refl
  by label.JumpTarget e = refl
  by _ e = cc

to_label : (graph : PlainGraph) (method b : ℕ) → IsTo graph method b → IsNodeWith graph (λ at. is_among at.label (step ++ label.MethodReturn ∷ []) ≡ true) b
to_label graph method b (inl n) = record { node = n.node; node_is = n.node_is; has = by n.node.label n.has } where
  by : (l : Label) → is_among l step ≡ true → is_among l (step ++ label.MethodReturn ∷ []) ≡ true
  by label.MethodReturn e = refl
  by label.Call e = refl
  by label.Identifier e = refl
  by label.Literal e = refl
  by label.FieldIdentifier e = refl
  by label.Return e = refl
  by label.ControlStructure e = refl
  by label.JumpTarget e = refl
  by _ e = cc
to_label graph method b (inr c) = let n = c.is.is_node in record { node = n.node; node_is = n.node_is; has = subst (λ (l : Label). is_among l (step ++ label.MethodReturn ∷ []) ≡ true) (sym n.has) refl }

allowed_by : (one other : Label) → is_among one (label.Method ∷ step) ≡ true → is_among other (step ++ label.MethodReturn ∷ []) ≡ true → IsTrue (allows Cfg one other)
allowed_by one other e f = or_left (is_among one (label.Method ∷ step) && is_among other (step ++ label.MethodReturn ∷ [])) false (both_and (is_among one (label.Method ∷ step)) (is_among other (step ++ label.MethodReturn ∷ [])) e f)

edge_among : (graph : PlainGraph) (method : ℕ) → HasBody graph method → (edge : ℕ × ℕ) → IsFrom graph method edge.0 × IsTo graph method edge.1 → IsEdgeAmong (graph.nodes ++ []) (added_edge (length graph.nodes) (cfg_edge edge))
edge_among graph method h edge (from, to) =
    let one = from_label graph method edge.0 h from in
    let other = to_label graph method edge.1 to in
    let same = sym (append-nil graph.nodes) in
    record {
      from = one.node;
      from_is = subst (λ (nodes : List PlainNode). slice_get nodes edge.0 ≡ Some one.node) same one.node_is;
      to = other.node;
      to_is = subst (λ (nodes : List PlainNode). slice_get nodes edge.1 ≡ Some other.node) same other.node_is;
      allowed = allowed_by one.node.label other.node.label one.has other.has;
      variable = inr refl;
    }

contains_at : {X : Type 0} (xs : List X) (k : ℕ) (d : X) → k < length xs → Contains xs (get_or xs k d)
contains_at xs k d l = (k, l, get_or_from_slice_get xs k (get_or xs k d) (get_or xs k d) (slice_get-get_or xs k d l))

all_contained : {X : Type 0} (P : X → Type 0) (xs : List X) → ((x : X) → Contains xs x → P x) → All P xs
all_contained P xs f = λ k d l. f (get_or xs k d) (contains_at xs k d l)

module _ (graph : PlainGraph) (method : ℕ) (g : IsGraph graph) (shaped : IsShaped graph) (h : HasBody graph method) where
  among : (edge : ℕ × ℕ) → Contains (flow_of graph method) edge → IsFrom graph method edge.0 × IsTo graph method edge.1
  among edge i =
      let p = is_plan_of graph method g shaped h in
      flows_among graph method (plan_of graph method) p edge.0 edge.1 (((flow_is graph method p).flow edge.0 edge.1).0 i)

  flow_fits : Fits graph (flow_delta (flow_of graph method))
  flow_fits = record {
    old_from = All-map (λ (edge : NewEdge). IsOldEnd (length graph.nodes) edge.from) cfg_edge (flow_of graph method) (all_contained (λ (edge : ℕ × ℕ). edge.0 < length graph.nodes) (flow_of graph method) (λ edge i. node_within graph _ edge.0 (from_label graph method edge.0 h (among edge i).0)));
    old_to = All-map (λ (edge : NewEdge). IsOldEnd (length graph.nodes) edge.to) cfg_edge (flow_of graph method) (all_contained (λ (edge : ℕ × ℕ). edge.1 < length graph.nodes) (flow_of graph method) (λ edge i. node_within graph _ edge.1 (to_label graph method edge.1 (among edge i).1)));
    allowed = All-map (IsEdgeAmong (graph.nodes ++ [])) (added_edge (length graph.nodes)) (map cfg_edge (flow_of graph method)) (All-map (λ (edge : NewEdge). IsEdgeAmong (graph.nodes ++ []) (added_edge (length graph.nodes) edge)) cfg_edge (flow_of graph method) (all_contained (λ (edge : ℕ × ℕ). IsEdgeAmong (graph.nodes ++ []) (added_edge (length graph.nodes) (cfg_edge edge))) (flow_of graph method) (λ edge i. edge_among graph method h edge (among edge i))));
    settings = All-nil _;
    apart = apart_none;
  }

empty_fits : (graph : PlainGraph) → Fits graph empty_delta
empty_fits graph = record { old_from = All-nil _; old_to = All-nil _; allowed = All-nil _; settings = All-nil _; apart = apart_none }

part_fits : (graph : PlainGraph) → IsGraph graph → IsShaped graph → (part : ℕ) → Fits graph (part_delta graph part)
unfolding part_delta
part_fits graph g shaped part = by (slice_get (methods_of graph) part) refl where
  by : (o : Option ℕ) → slice_get (methods_of graph) part ≡ o → Fits graph (added_by graph o)
  by None e = empty_fits graph
  by (Some method) e = flow_fits graph method g shaped ((methods_are graph method).0 (in_at (methods_of graph) part method e))

no_settings : (graph : PlainGraph) (part : ℕ) → (part_delta graph part).settings ≡ []
unfolding part_delta
no_settings graph part = by (slice_get (methods_of graph) part) where
  by : (o : Option ℕ) → (added_by graph o).settings ≡ []
  by None = refl
  by (Some method) = refl

none_contained : {X : Type 0} (xs : List X) (x : X) → xs ≡ [] → ¬ Contains xs x
none_contained xs x e i = by (subst (λ (v : List _). Contains v x) e i) where
  by : ¬ Contains [] x
  by (k, l, e) = absurd (omega arith)

pub parts_fit : (graph : PlainGraph) → IsGraph graph → IsShaped graph → PartsFit graph (part_delta graph) (length (methods_of graph))
parts_fit graph g shaped = record {
  each = λ part l. part_fits graph g shaped part;
  apart = λ i k one other l m c d same. absurd (none_contained (part_delta graph i).settings one (no_settings graph i) c);
}

not_ast : (graph : PlainGraph) (part : ℕ) → All (λ (edge : NewEdge). ¬ (edge.kind ≡ Ast)) (part_delta graph part).edges
unfolding part_delta
not_ast graph part = by (slice_get (methods_of graph) part) where
  by : (o : Option ℕ) → All (λ (edge : NewEdge). ¬ (edge.kind ≡ Ast)) (added_by graph o).edges
  by None = All-nil _
  by (Some method) = All-map (λ (edge : NewEdge). ¬ (edge.kind ≡ Ast)) cfg_edge (flow_of graph method) (all_contained (λ (edge : ℕ × ℕ). ¬ (Cfg ≡ Ast)) (flow_of graph method) (λ edge i e. cc))

pub parts_shape : (caps : Caps) (start graph : PlainGraph) → IsShaped start → seq caps start (part_delta start) (length (methods_of start)) ≡ Ok graph → IsShaped graph
parts_shape caps start graph shaped is = stays_shaped caps start (part_delta start) (length (methods_of start)) shaped (λ k l. not_ast start k) graph is
