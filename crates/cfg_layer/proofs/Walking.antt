-- The tests of the walk, of what is around a node and of jumps tell what is so.
use Rattle.std.proofs.Common.{ℕ, zero, suc, ◌≡◌, ◌⊎◌, inl, inr, Bool, true, false, cond, List, [], ◌∷◌, Option, Some, None, slice_get, refl, sym, ap, subst}
use Rattle.std.specs.Prelude.{◌==◌, ◌&&◌, nat_eq, codes}
use Rattle.std.proofs.lemmas.Bool.{eqb-true, eq-eqb}
use Rattle.cpg_schema.specs.declared.edge_kind.EdgeKind.TheVariants.{Ast}
use Rattle.cpg_schema.specs.declared.label.Label.{Label}
use Rattle.cpg_schema.specs.declared.label.Label.TheVariants as label
use Rattle.cpg_schema.specs.Names.{kind_rank}
use Rattle.cpg_schema.specs.Graph.{PlainEdge, PlainGraph, PlainNode}
use Rattle.cpg_schema.specs.Shape.{IsAbove, IsAstEdgeAt, child as child_of, descendant}
use Rattle.graph_parts.specs.Finds.{Finds, IsLeast}
use Rattle.graph_parts.specs.Parts.{HasLabel, IsChild, IsChildOf, IsNodeWith, IsPart}
use Rattle.graph_parts.proofs.KindRank.{kind_from_rank}
use Rattle.cfg_rules.specs.Member.{IsIn}
use Rattle.cfg_edges.specs.Reaching.{IsReached, here, on, reaches}
use Rattle.cfg_edges.proofs.Reached.{TellsSame, reached, reaches_all}
use Rattle.cfg_edges.proofs.Bools.{and_both, both_and, or_either, or_left, or_right}
use Rattle.cfg_layer.specs.Kinds.{Kind, HasKind, IsLoop, IsLoopKind, IsLoopOrSwitch, IsPassedOver, IsTargetNamed, IsDefault, IsCaseOrDefault, kind_of, function, passed, size_of, while_loop, do_loop, for_loop, switch_statement, jump_target, goto_jump, break_jump, continue_jump}
use Rattle.cfg_layer.specs.Walked.{IsUnevaluated, IsWalked, IsWalkedWith, operand, constant, body as walk_body, below as walk_below}
use Rattle.cfg_layer.specs.Jumps.{IsInnermost, IsLabelIn, LeadsToLabel, LeadsToCase, IsBreakOf, IsContinueOf, IsDefaultOf}
use Rattle.cfg_layer.specs.Tested.{is_number, is_kind, is_loop, is_loop_or_switch, is_passed_over, is_target_named, is_default, is_case_or_default, is_method, is_method_label, part_at, block_at, is_unevaluated, is_ast, is_step, steps_by, steps_down, is_walked_from, is_walked, ast_steps, leads_down, is_above, is_between, is_innermost, is_label_in, label_in, is_label_of, leads_to_label, belongs, leads_to_case, is_default_of, leads_to, is_break_of, is_continue_of}
use Rattle.cfg_layer.proofs.Telling.{Tells, tells_both, tells_either, tells_not, tells_as, tells_equal, tells_name, tells_kind, tells_node, tells_least, tells_none, tells_found, one_least, node_within, part_found, block_found}

-- ---- Kinds.

kind_loop : (k : Kind) → (k ≡ while_loop) ⊎ ((k ≡ do_loop) ⊎ (k ≡ for_loop)) → IsLoopKind k
kind_loop k (inl e) = subst IsLoopKind (sym e) tt
kind_loop k (inr (inl e)) = subst IsLoopKind (sym e) tt
kind_loop k (inr (inr e)) = subst IsLoopKind (sym e) tt

loop_kind : (k : Kind) → IsLoopKind k → (k ≡ while_loop) ⊎ ((k ≡ do_loop) ⊎ (k ≡ for_loop))
loop_kind while_loop h = inl refl
loop_kind do_loop h = inr (inl refl)
loop_kind for_loop h = inr (inr refl)
loop_kind _ h = absurd h

pub tells_loop : (node : PlainNode) → Tells (is_loop node) (IsLoop node)
tells_loop node = tells_as (tells_either (tells_kind while_loop node) (tells_either (tells_kind do_loop node) (tells_kind for_loop node))) (kind_loop (kind_of node)) (loop_kind (kind_of node))

pub tells_loop_or_switch : (node : PlainNode) → Tells (is_loop_or_switch node) (IsLoopOrSwitch node)
tells_loop_or_switch node = tells_either (tells_loop node) (tells_kind switch_statement node)

pub tells_passed_over : (node : PlainNode) → Tells (is_passed_over node) (IsPassedOver node)
tells_passed_over node = tells_either (tells_kind passed node) (tells_kind function node)

pub tells_target_named : (name : List ℕ) (node : PlainNode) → Tells (is_target_named name node) (IsTargetNamed name node)
tells_target_named name node = tells_both (tells_kind jump_target node) (tells_name name node.name)

pub tells_default : (node : PlainNode) → Tells (is_default node) (IsDefault node)
tells_default node = tells_target_named (codes "default") node

pub tells_case_or_default : (node : PlainNode) → Tells (is_case_or_default node) (IsCaseOrDefault node)
tells_case_or_default node = tells_either (tells_target_named (codes "case") node) (tells_default node)

method_label : (l : Label) → is_method_label l ≡ true → l ≡ label.Method
method_label label.Method e = refl
method_label _ e = cc

pub tells_method : (node : PlainNode) → Tells (is_method node) (HasLabel label.Method node)
tells_method node = record { yes = λ e. method_label node.label e; told = λ e. subst (λ (l : Label). is_method_label l ≡ true) (sym e) refl }

-- ---- Steps.

same_number : TellsSame nat_eq
same_number = record { one = λ x. eq-eqb x x refl; tells = λ x y e. eqb-true x y e }

abbrev IsStepBy : (PlainEdge → Bool) → List PlainEdge → ℕ → ℕ → Type 0
IsStepBy test edges p q = (k : ℕ) × (edge : PlainEdge) × (slice_get edges k ≡ Some edge) × (test edge ≡ true) × (edge.from ≡ p) × (edge.to ≡ q)

step_edge : (test : PlainEdge → Bool) (edges : List PlainEdge) (p q : ℕ) → IsIn (steps_by test edges) (p, q) → IsStepBy test edges p q
unfolding steps_by IsIn
step_edge test [] p q i = absurd i
step_edge test (edge ∷ edges) p q i = by (test edge) refl (step_edge test edges p q) i where
  more : IsStepBy test edges p q → IsStepBy test (edge ∷ edges) p q
  more (k, e, is, t, f, g) = (suc k, e, is, t, f, g)

  by : (b : Bool) → test edge ≡ b → (IsIn (steps_by test edges) (p, q) → IsStepBy test edges p q) → IsIn (cond b ((edge.from, edge.to) ∷ steps_by test edges) (steps_by test edges)) (p, q) → IsStepBy test (edge ∷ edges) p q
  by true e rest (inl same) = (zero, edge, refl, e, ap (λ (v : ℕ × ℕ). v.0) same, ap (λ (v : ℕ × ℕ). v.1) same)
  by true e rest (inr j) = more (rest j)
  by false e rest j = more (rest j)

edge_step : (test : PlainEdge → Bool) (edges : List PlainEdge) (k : ℕ) (edge : PlainEdge) → slice_get edges k ≡ Some edge → test edge ≡ true → IsIn (steps_by test edges) (edge.from, edge.to)
unfolding steps_by IsIn
edge_step test [] k edge is t = cc
edge_step test (first ∷ edges) zero edge is t = by (test first) refl where
  same : first ≡ edge
  same = cc

  by : (b : Bool) → test first ≡ b → IsIn (cond b ((first.from, first.to) ∷ steps_by test edges) (steps_by test edges)) (edge.from, edge.to)
  by true e = inl (ap (λ (v : PlainEdge). (let two : ℕ × ℕ = (v.from, v.to) in two)) same)
  by false e = let f : test first ≡ true = subst (λ (v : PlainEdge). test v ≡ true) (sym same) t in cc
edge_step test (first ∷ edges) (suc k) edge is t = by (test first) (edge_step test edges k edge is t) where
  by : (b : Bool) → IsIn (steps_by test edges) (edge.from, edge.to) → IsIn (cond b ((first.from, first.to) ∷ steps_by test edges) (steps_by test edges)) (edge.from, edge.to)
  by true i = inr i
  by false i = i

tells_ast : (edge : PlainEdge) → Tells (is_ast edge) (edge.kind ≡ Ast)
tells_ast edge = tells_as (tells_equal (kind_rank edge.kind) (kind_rank Ast)) (kind_from_rank edge.kind Ast) (λ e. ap kind_rank e)

step_in : (graph : PlainGraph) (test : PlainEdge → Bool) (p q : ℕ) (k : ℕ) (edge : PlainEdge) → slice_get graph.edges k ≡ Some edge → test edge ≡ true → edge.from ≡ p → edge.to ≡ q → IsIn (steps_by test graph.edges) (p, q)
step_in graph test p q k edge is t f g = subst (λ (v : ℕ). IsIn (steps_by test graph.edges) (p, v)) g (subst (λ (v : ℕ). IsIn (steps_by test graph.edges) (v, edge.to)) f (edge_step test graph.edges k edge is t))

-- ---- The walk.

pub tells_part : (graph : PlainGraph) (k parent node : ℕ) → Tells (is_number node (part_at graph k parent)) (IsPart graph k parent node)
tells_part graph k parent node = tells_found _ node (part_at graph k parent) (part_found graph k parent)

abbrev IsUnevaluatedBy : PlainGraph → ℕ → ℕ → Type 0
IsUnevaluatedBy graph parent node = IsNodeWith graph (HasKind size_of) parent ⊎ (IsNodeWith graph (HasKind jump_target) parent × IsPart graph 1 parent node)

unevaluated : (graph : PlainGraph) (parent node : ℕ) → IsUnevaluatedBy graph parent node → IsUnevaluated graph parent node
unevaluated graph parent node (inl s) = operand node s
unevaluated graph parent node (inr b) = constant node b.0 b.1

by_unevaluated : (graph : PlainGraph) (parent node : ℕ) → IsUnevaluated graph parent node → IsUnevaluatedBy graph parent node
by_unevaluated graph parent node (operand n s) = inl s
by_unevaluated graph parent node (constant n j p) = inr (j, p)

tells_unevaluated : (graph : PlainGraph) (parent node : ℕ) → Tells (is_unevaluated graph parent node) (IsUnevaluated graph parent node)
tells_unevaluated graph parent node = tells_as (tells_either (tells_node graph (is_kind size_of) (HasKind size_of) parent (tells_kind size_of)) (tells_both (tells_node graph (is_kind jump_target) (HasKind jump_target) parent (tells_kind jump_target)) (tells_part graph 1 parent node))) (unevaluated graph parent node) (by_unevaluated graph parent node)

abbrev IsStepDown : PlainGraph → PlainEdge → Type 0
IsStepDown graph edge = (edge.kind ≡ Ast) × ((¬ IsNodeWith graph IsPassedOver edge.from) × (¬ IsUnevaluated graph edge.from edge.to))

tells_step : (graph : PlainGraph) (edge : PlainEdge) → Tells (is_step graph edge) (IsStepDown graph edge)
tells_step graph edge = tells_both (tells_ast edge) (tells_both (tells_not (tells_node graph is_passed_over IsPassedOver edge.from tells_passed_over)) (tells_not (tells_unevaluated graph edge.from edge.to)))

walked_on : (graph : PlainGraph) (method p q : ℕ) → IsWalked graph method p → IsStepBy (is_step graph) graph.edges p q → IsWalked graph method q
walked_on graph method p q w (k, edge, is, t, f, g) =
    let step = (tells_step graph edge).yes t in
    walk_below p q w
    (record { position = k; edge = edge; edge_is = is; kind_is = step.0; from_is = f; to_is = g })
    (subst (λ (v : ℕ). ¬ IsNodeWith graph IsPassedOver v) f step.1.0)
    (subst (λ (v : ℕ). ¬ IsUnevaluated graph p v) g (subst (λ (v : ℕ). ¬ IsUnevaluated graph v edge.to) f step.1.1))

walked_from : (graph : PlainGraph) (method body node : ℕ) → IsChildOf graph label.Block method body → IsReached (steps_down graph) body node → IsWalked graph method node
walked_from graph method body node b here = walk_body body b
walked_from graph method body node b (on p q r i) = walked_on graph method p q (walked_from graph method body p b r) (step_edge (is_step graph) graph.edges p q i)

abbrev IsFromBody : PlainGraph → ℕ → ℕ → Type 0
IsFromBody graph method node = (body : ℕ) × IsChildOf graph label.Block method body × IsReached (steps_down graph) body node

from_on : (graph : PlainGraph) (method p q : ℕ) → IsFromBody graph method p → IsChild graph p q → ¬ IsNodeWith graph IsPassedOver p → ¬ IsUnevaluated graph p q → IsFromBody graph method q
from_on graph method p q (body, b, r) c np nu = (body, b, on p q r (step_in graph (is_step graph) p q c.position c.edge c.edge_is ((tells_step graph c.edge).told (c.kind_is, (subst (λ (v : ℕ). ¬ IsNodeWith graph IsPassedOver v) (sym c.from_is) np, subst (λ (v : ℕ). ¬ IsUnevaluated graph v c.edge.to) (sym c.from_is) (subst (λ (v : ℕ). ¬ IsUnevaluated graph p v) (sym c.to_is) nu)))) c.from_is c.to_is))

pub from_body : (graph : PlainGraph) (method node : ℕ) → IsWalked graph method node → IsFromBody graph method node
from_body graph method node (walk_body n b) = (n, b, here)
from_body graph method node (walk_below p q w c np nu) = from_on graph method p q (from_body graph method p w) c np nu

pub tells_walked : (graph : PlainGraph) (method node : ℕ) → Tells (is_walked graph method node) (IsWalked graph method node)
unfolding is_walked
tells_walked graph method node = by (block_at graph method) (block_found graph method) where
  to : (body : ℕ) → IsChildOf graph label.Block method body → IsFromBody graph method node → reaches nat_eq (steps_down graph) body node ≡ true
  to body b (other, c, r) = reaches_all nat_eq same_number (steps_down graph) body node (subst (λ (v : ℕ). IsReached (steps_down graph) v node) (one_least _ other body c b) r)

  no_body : ((body : ℕ) → ¬ IsChildOf graph label.Block method body) → IsFromBody graph method node → ⊥
  no_body n (body, b, r) = n body b

  by : (o : Option ℕ) → Finds (IsChildOf graph label.Block method) o → Tells (is_walked_from graph o node) (IsWalked graph method node)
  by None n = record { yes = λ e. cc; told = λ w. absurd (no_body n (from_body graph method node w)) }
  by (Some body) b = record { yes = λ e. walked_from graph method body node b (reached nat_eq same_number (steps_down graph) body node e); told = λ w. to body b (from_body graph method node w) }

-- ---- What is around a node.

abbrev IsLedDown : List (ℕ × ℕ) → List (ℕ × ℕ) → ℕ → ℕ → Type 0
IsLedDown steps all ancestor node = (c : ℕ) × IsIn steps (ancestor, c) × IsReached all c node

led_down : (steps all : List (ℕ × ℕ)) (ancestor node : ℕ) → leads_down steps all ancestor node ≡ true → IsLedDown steps all ancestor node
unfolding leads_down IsIn
led_down [] all ancestor node e = cc
led_down (step ∷ steps) all ancestor node e = elim (or_either ((step.0 == ancestor) && reaches nat_eq all step.1 node) (leads_down steps all ancestor node) e) [
  | inl l ↦ first (and_both (step.0 == ancestor) (reaches nat_eq all step.1 node) l)
  | inr o ↦ more (led_down steps all ancestor node o)
] where
  first : (step.0 == ancestor ≡ true) × (reaches nat_eq all step.1 node ≡ true) → IsLedDown (step ∷ steps) all ancestor node
  first (e, r) = (step.1, inl (ap (λ (v : ℕ). (let two : ℕ × ℕ = (v, step.1) in two)) (eqb-true step.0 ancestor e)), reached nat_eq same_number all step.1 node r)

  more : IsLedDown steps all ancestor node → IsLedDown (step ∷ steps) all ancestor node
  more (c, i, r) = (c, inr i, r)

down_led : (steps all : List (ℕ × ℕ)) (ancestor c node : ℕ) → IsIn steps (ancestor, c) → IsReached all c node → leads_down steps all ancestor node ≡ true
unfolding leads_down IsIn
down_led [] all ancestor c node i r = absurd i
down_led (step ∷ steps) all ancestor c node (inl e) r = or_left ((step.0 == ancestor) && reaches nat_eq all step.1 node) (leads_down steps all ancestor node) (both_and (step.0 == ancestor) (reaches nat_eq all step.1 node) (eq-eqb step.0 ancestor (ap (λ (v : ℕ × ℕ). v.0) e)) (reaches_all nat_eq same_number all step.1 node (subst (λ (v : ℕ). IsReached all v node) (sym (ap (λ (v : ℕ × ℕ). v.1) e)) r)))
down_led (step ∷ steps) all ancestor c node (inr i) r = or_right ((step.0 == ancestor) && reaches nat_eq all step.1 node) (leads_down steps all ancestor node) (down_led steps all ancestor c node i r)

ast_edge : (graph : PlainGraph) (p q : ℕ) → IsStepBy is_ast graph.edges p q → (k : ℕ) × IsAstEdgeAt graph.edges k p q
ast_edge graph p q (k, edge, is, t, f, g) = (k, record { edge = edge; edge_is = is; kind = (tells_ast edge).yes t; from = f; to = g })

above_by : (graph : PlainGraph) (ancestor c node : ℕ) → IsIn (ast_steps graph) (ancestor, c) → IsReached (ast_steps graph) c node → IsAbove graph.edges ancestor node
above_by graph ancestor c node i here = let at = ast_edge graph ancestor c (step_edge is_ast graph.edges ancestor c i) in child_of at.0 c at.1
above_by graph ancestor c node i (on p q r j) = let at = ast_edge graph p q (step_edge is_ast graph.edges p q j) in descendant at.0 p q (above_by graph ancestor c p i r) at.1

ast_step : (graph : PlainGraph) (k p q : ℕ) → IsAstEdgeAt graph.edges k p q → IsIn (ast_steps graph) (p, q)
ast_step graph k p q at = step_in graph is_ast p q k at.edge at.edge_is ((tells_ast at.edge).told at.kind) at.from at.to

by_above : (graph : PlainGraph) (ancestor node : ℕ) → IsAbove graph.edges ancestor node → IsLedDown (ast_steps graph) (ast_steps graph) ancestor node
by_above graph ancestor node (child_of k n at) = (n, ast_step graph k ancestor n at, here)
by_above graph ancestor node (descendant k p n above at) = more (by_above graph ancestor p above) where
  more : IsLedDown (ast_steps graph) (ast_steps graph) ancestor p → IsLedDown (ast_steps graph) (ast_steps graph) ancestor n
  more (c, i, r) = (c, i, on p n r (ast_step graph k p n at))

pub tells_above : (graph : PlainGraph) (ancestor node : ℕ) → Tells (is_above graph ancestor node) (IsAbove graph.edges ancestor node)
unfolding is_above
tells_above graph ancestor node = record {
  yes = λ e. up (led_down (ast_steps graph) (ast_steps graph) ancestor node e);
  told = λ h. down (by_above graph ancestor node h);
} where
  up : IsLedDown (ast_steps graph) (ast_steps graph) ancestor node → IsAbove graph.edges ancestor node
  up (c, i, r) = above_by graph ancestor c node i r

  down : IsLedDown (ast_steps graph) (ast_steps graph) ancestor node → leads_down (ast_steps graph) (ast_steps graph) ancestor node ≡ true
  down (c, i, r) = down_led (ast_steps graph) (ast_steps graph) ancestor c node i r

abbrev IsBetween : PlainGraph → (PlainNode → Type 0) → ℕ → ℕ → ℕ → Type 0
IsBetween graph P node around between = IsAbove graph.edges around between × (IsAbove graph.edges between node × IsNodeWith graph P between)

tells_between : (graph : PlainGraph) (test : PlainNode → Bool) (P : PlainNode → Type 0) → ((node : PlainNode) → Tells (test node) (P node)) → (node around between : ℕ) → Tells (is_between graph test node around between) (IsBetween graph P node around between)
tells_between graph test P t node around between = tells_both (tells_above graph around between) (tells_both (tells_above graph between node) (tells_node graph test P between t))

pub tells_innermost : (graph : PlainGraph) (test : PlainNode → Bool) (P : PlainNode → Type 0) → ((node : PlainNode) → Tells (test node) (P node)) → (node around : ℕ) → Tells (is_innermost graph test node around) (IsInnermost graph P node around)
unfolding is_innermost
tells_innermost graph test P t node around = tells_as (tells_both (tells_above graph around node) (tells_both (tells_node graph test P around t) (tells_none graph (is_between graph test node around) (IsBetween graph P node around) (tells_between graph test P t node around) (λ y b. node_within graph P y b.1.1)))) (λ h. record { is_above = h.0; is_node = h.1.0; nearest = λ between a b w. h.1.1 between (a, (b, w)) }) (λ h. (h.is_above, (h.is_node, λ between b. h.nearest between b.0 b.1.0 b.1.1)))

-- ---- Jumps.

tells_label_in : (graph : PlainGraph) (method : ℕ) (name : List ℕ) (target : ℕ) → Tells (is_label_in graph method name target) (IsLabelIn graph method name target)
tells_label_in graph method name target = tells_as (tells_both (tells_node graph (is_target_named name) (IsTargetNamed name) target (tells_target_named name)) (tells_innermost graph is_method (HasLabel label.Method) tells_method target method)) (λ h. record { is_target = h.0; method_is = record { is_above = h.1.is_above; is_node = h.1.is_node; nearest = h.1.nearest } }) (λ h. (h.is_target, record { is_above = h.method_is.is_above; is_node = h.method_is.is_node; nearest = h.method_is.nearest }))

label_found : (graph : PlainGraph) (method : ℕ) (name : List ℕ) → Finds (IsLeast (IsLabelIn graph method name)) (label_in graph method name)
label_found graph method name = tells_least graph (is_label_in graph method name) (IsLabelIn graph method name) (tells_label_in graph method name) (λ y p. node_within graph (IsTargetNamed name) y p.is_target)

abbrev IsLabelOf : PlainGraph → ℕ → ℕ → Option (List ℕ) → Type 0
IsLabelOf graph method target o = (name : List ℕ) × (o ≡ Some name) × IsLeast (IsLabelIn graph method name) target

tells_label_of : (graph : PlainGraph) (method target : ℕ) (o : Option (List ℕ)) → Tells (is_label_of graph method target o) (IsLabelOf graph method target o)
tells_label_of graph method target None = record { yes = λ e. cc; told = λ h. no_name h } where
  no_name : IsLabelOf graph method target None → false ≡ true
  no_name (name, e, l) = cc
tells_label_of graph method target (Some name) = tells_as (tells_found (IsLabelIn graph method name) target (label_in graph method name) (label_found graph method name)) (λ l. (name, refl, l)) back where
  back : IsLabelOf graph method target (Some name) → IsLeast (IsLabelIn graph method name) target
  back (other, e, l) = let same : other ≡ name = cc in subst (λ (v : List ℕ). IsLeast (IsLabelIn graph method v) target) same l

abbrev IsGotoTo : PlainGraph → ℕ → ℕ → PlainNode → Type 0
IsGotoTo graph method target at = HasKind goto_jump at × IsLabelOf graph method target at.name

leads_by : (graph : PlainGraph) (method node target : ℕ) → IsNodeWith graph (IsGotoTo graph method target) node × IsWalked graph method target → LeadsToLabel graph method node target
leads_by graph method node target (g, w) = by g.has.1 where
  by : IsLabelOf graph method target g.node.name → LeadsToLabel graph method node target
  by (name, e, l) = record { name = name; is_goto = record { node = g.node; node_is = g.node_is; has = (g.has.0, e) }; label = l; walked = w }

pub tells_leads_to_label : (graph : PlainGraph) (method node target : ℕ) → Tells (leads_to_label graph method node target) (LeadsToLabel graph method node target)
unfolding leads_to_label
tells_leads_to_label graph method node target = tells_as (tells_both (tells_node graph (λ at. is_kind goto_jump at && is_label_of graph method target at.name) (IsGotoTo graph method target) node (λ at. tells_both (tells_kind goto_jump at) (tells_label_of graph method target at.name))) (tells_walked graph method target)) (leads_by graph method node target) (λ h. (record { node = h.is_goto.node; node_is = h.is_goto.node_is; has = (h.is_goto.has.0, (h.name, h.is_goto.has.1, h.label)) }, h.walked))

-- What is told of a walked node and what is around it.
pub record Belongs (graph : PlainGraph) (method : ℕ) (P Q : PlainNode → Type 0) (node around : ℕ) : Type 0 where
  pub is : IsWalkedWith graph P method node
  pub innermost : IsInnermost graph Q node around

pub tells_belongs : (graph : PlainGraph) (method : ℕ) (test outer : PlainNode → Bool) (P Q : PlainNode → Type 0) → ((node : PlainNode) → Tells (test node) (P node)) → ((node : PlainNode) → Tells (outer node) (Q node)) → (node around : ℕ) → Tells (belongs graph method test outer node around) (Belongs graph method P Q node around)
unfolding belongs
tells_belongs graph method test outer P Q t u node around = tells_as (tells_both (tells_walked graph method node) (tells_both (tells_node graph test P node t) (tells_innermost graph outer Q u node around))) (λ h. record { is = record { walked = h.0; is_node = h.1.0 }; innermost = h.1.1 }) (λ h. (h.is.walked, (h.is.is_node, h.innermost)))

pub tells_case_of : (graph : PlainGraph) (method node target : ℕ) → Tells (leads_to_case graph method node target) (LeadsToCase graph method node target)
tells_case_of graph method node target = tells_as (tells_belongs graph method is_case_or_default (is_kind switch_statement) IsCaseOrDefault (HasKind switch_statement) tells_case_or_default (tells_kind switch_statement) target node) (λ h. record { is = h.is; innermost = h.innermost }) (λ h. record { is = h.is; innermost = h.innermost })

pub tells_default_of : (graph : PlainGraph) (method node target : ℕ) → Tells (is_default_of graph method node target) (IsDefaultOf graph method node target)
tells_default_of graph method node target = tells_as (tells_belongs graph method is_default (is_kind switch_statement) IsDefault (HasKind switch_statement) tells_default (tells_kind switch_statement) target node) (λ h. record { is = h.is; innermost = h.innermost }) (λ h. record { is = h.is; innermost = h.innermost })

pub tells_break_of : (graph : PlainGraph) (method node jump : ℕ) → Tells (is_break_of graph method node jump) (IsBreakOf graph method node jump)
tells_break_of graph method node jump = tells_as (tells_belongs graph method (is_kind break_jump) is_loop_or_switch (HasKind break_jump) IsLoopOrSwitch (tells_kind break_jump) tells_loop_or_switch jump node) (λ h. record { is = h.is; innermost = h.innermost }) (λ h. record { is = h.is; innermost = h.innermost })

pub tells_continue_of : (graph : PlainGraph) (method node jump : ℕ) → Tells (is_continue_of graph method node jump) (IsContinueOf graph method node jump)
tells_continue_of graph method node jump = tells_as (tells_belongs graph method (is_kind continue_jump) is_loop (HasKind continue_jump) IsLoop (tells_kind continue_jump) tells_loop jump node) (λ h. record { is = h.is; innermost = h.innermost }) (λ h. record { is = h.is; innermost = h.innermost })

pub tells_leads_to : (graph : PlainGraph) (method node target : ℕ) → Tells (leads_to graph method node target) (LeadsToLabel graph method node target ⊎ LeadsToCase graph method node target)
tells_leads_to graph method node target = tells_either (tells_leads_to_label graph method node target) (tells_case_of graph method node target)
