-- The plan that is computed is the plan of the function.
use Rattle.std.proofs.Common.{ℕ, zero, suc, ◌≡◌, ◌+◌, ◌<◌, ◌≤◌, ◌⊎◌, inl, inr, Bool, true, false, cond, List, [], ◌∷◌, Option, Some, None, slice_get, length, refl, sym, ◌∙◌, ap, subst, arith}
use Rattle.std.specs.Prelude.{◌==◌, ◌↔◌}
use Rattle.std.specs.List.{All}
use Rattle.std.proofs.Math.Nat.{eq-or-lt_of_le}
use Rattle.std.proofs.lemmas.Bool.{eqb-true, eq-eqb}
use Rattle.std.proofs.lemmas.Option.{slice_get_within, get_or_from_slice_get}
use Rattle.std.proofs.lemmas.List.Elements.{All-get_or}
use Rattle.cpg_schema.specs.declared.edge_kind.EdgeKind.{EdgeKind}
use Rattle.cpg_schema.specs.declared.edge_kind.EdgeKind.TheVariants.{Ast}
use Rattle.cpg_schema.specs.Graph.{PlainGraph, PlainNode}
use Rattle.cpg_schema.specs.Fitting.{IsGraph, IsEdgeAmong}
use Rattle.cpg_schema.specs.Shape.{IsAbove, IsShaped}
use Rattle.graph_parts.specs.Finds.{Finds, IsLeast}
use Rattle.graph_parts.specs.Parts.{HasEdge, IsArgument, IsChild, IsPart}
use Rattle.graph_parts.proofs.Tree.{above_child, above_further}
use Rattle.cfg_rules.specs.declared.rule.Rule.{Rule}
use Rattle.cfg_rules.specs.declared.rule.Rule.TheVariants as rule
use Rattle.cfg_rules.specs.Member.{IsIn}
use Rattle.cfg_rules.specs.Plan.{Construct}
use Rattle.cfg_layer.specs.Kinds.{Kind, IsTargetNamed, kind_of, function, primary, passed, call, short_circuit, conditional, size_of, block, if_statement, while_loop, do_loop, for_loop, switch_statement, jump_target, goto_jump, break_jump, continue_jump, return_jump, unknown}
use Rattle.cfg_layer.specs.Walked.{HasBody, IsWalked, body as walk_body, below as walk_below}
use Rattle.cfg_layer.specs.Jumps.{LeadsToLabel, LeadsToCase, IsBreakOf, IsContinueOf, IsDefaultOf}
use Rattle.cfg_layer.specs.Constructs.{IsRuleBy, some as by_some, none as by_none, IsRuleOf, AreNumbered, AreArguments, AreChildren, ArePartsOf, AreJumpsOf, IsConstructOf, IsFunctionOf}
use Rattle.cfg_layer.specs.Plans.{IsUnwalked, IsPlanOf}
use Rattle.cfg_layer.specs.Tested.{argument_at, block_at, has_edge, is_break_of, is_continue_of, is_default_of, is_walked, leads_to, least_node, part_at}
use Rattle.cfg_layer.specs.Planned.{all_from, all_nodes, present, numbered_from, children, numbered, arguments, parts_of, rule_by, rule_of, walked_construct, function_construct, other_construct, construct_of, plan_from, plan_of}
use Rattle.cfg_layer.proofs.Telling.{Tells, IsLeastOrNone, least_all, one_least, node_within, tells_edge, part_found, argument_found, block_found, return_found}
use Rattle.cfg_layer.proofs.Walking.{tells_walked, tells_default_of, tells_break_of, tells_continue_of, tells_leads_to}

-- ---- All numbers that pass a test.

pub all_is : (test : ℕ → Bool) (P : ℕ → Type 0) → ((x : ℕ) → Tells (test x) (P x)) → (x count y : ℕ) → IsIn (all_from test x count) y → P y
unfolding all_from IsIn
all_is test P t x zero y i = absurd i
all_is test P t x (suc count) y i = by (test x) refl (all_is test P t (x + 1) count y) i where
  by : (b : Bool) → test x ≡ b → (IsIn (all_from test (x + 1) count) y → P y) → IsIn (cond b (x ∷ all_from test (x + 1) count) (all_from test (x + 1) count)) y → P y
  by true e rest (inl same) = subst P same ((t x).yes e)
  by true e rest (inr j) = rest j
  by false e rest j = rest j

all_from_low : (test : ℕ → Bool) (x count y : ℕ) → IsIn (all_from test x count) y → x ≤ y
unfolding all_from IsIn
all_from_low test x zero y i = absurd i
all_from_low test x (suc count) y i = by (test x) (all_from_low test (x + 1) count y) i where
  by : (b : Bool) → (IsIn (all_from test (x + 1) count) y → x + 1 ≤ y) → IsIn (cond b (x ∷ all_from test (x + 1) count) (all_from test (x + 1) count)) y → x ≤ y
  by true rest (inl same) = omega arith
  by true rest (inr j) = let l : x + 1 ≤ y = rest j in omega arith
  by false rest j = let l : x + 1 ≤ y = rest j in omega arith

pub all_has : (test : ℕ → Bool) (P : ℕ → Type 0) → ((x : ℕ) → Tells (test x) (P x)) → (x count y : ℕ) → P y → x ≤ y → y < x + count → IsIn (all_from test x count) y
unfolding all_from IsIn
all_has test P t x zero y p low high = absurd (omega arith)
all_has test P t x (suc count) y p low high = by (test x) refl (eq-or-lt_of_le low) (λ l. all_has test P t (x + 1) count y p (let m : x + 1 ≤ y = omega arith in m) (let m : y < (x + 1) + count = omega arith in m)) where
  by : (b : Bool) → test x ≡ b → (x ≡ y) ⊎ (x < y) → (x < y → IsIn (all_from test (x + 1) count) y) → IsIn (cond b (x ∷ all_from test (x + 1) count) (all_from test (x + 1) count)) y
  by true e (inl s) rest = inl s
  by true e (inr l) rest = inr (rest l)
  by false e (inl s) rest = (let f : test x ≡ true = (t x).told (subst P (sym s) p) in cc)
  by false e (inr l) rest = rest l

pub all_tell : (graph : PlainGraph) (test : ℕ → Bool) (P : ℕ → Type 0) → ((x : ℕ) → Tells (test x) (P x)) → ((y : ℕ) → P y → y < length graph.nodes) → (y : ℕ) → IsIn (all_nodes graph test) y ↔ P y
all_tell graph test P t within y = (all_is test P t 0 (length graph.nodes) y, λ p. all_has test P t 0 (length graph.nodes) y p (omega arith) (let h : y < length graph.nodes = within y p in omega arith))

-- ---- Parts that are all there.

present_in : (xs : List ℕ) (k : ℕ) (part : Option ℕ) → slice_get (present xs) k ≡ Some part → (y : ℕ) × (part ≡ Some y) × IsIn xs y
unfolding present IsIn
present_in [] k part e = cc
present_in (x ∷ xs) zero part e = (x, (let f : part ≡ Some x = cc in f), inl refl)
present_in (x ∷ xs) (suc k) part e = more (present_in xs k part e) where
  more : (y : ℕ) × (part ≡ Some y) × IsIn xs y → (y : ℕ) × (part ≡ Some y) × IsIn (x ∷ xs) y
  more (y, s, i) = (y, s, inr i)

in_present : (xs : List ℕ) (y : ℕ) → IsIn xs y → IsIn (present xs) (Some y)
unfolding present IsIn
in_present [] y i = absurd i
in_present (x ∷ xs) y (inl e) = inl (ap Some e)
in_present (x ∷ xs) y (inr i) = inr (in_present xs y i)

later : (test : ℕ → Bool) (x count k other : ℕ) → slice_get (present (all_from test (x + 1) count)) k ≡ Some (Some other) → x < other
later test x count k other g = by (present_in (all_from test (x + 1) count) k (Some other) g) where
  by : (y : ℕ) × (Some other ≡ Some y) × IsIn (all_from test (x + 1) count) y → x < other
  by (y, s, i) = let same : other ≡ y = cc in let low : x + 1 ≤ y = all_from_low test (x + 1) count y i in omega arith

rising : (test : ℕ → Bool) (x count i k one other : ℕ) → i < k → slice_get (present (all_from test x count)) i ≡ Some (Some one) → slice_get (present (all_from test x count)) k ≡ Some (Some other) → one < other
unfolding all_from present
rising test x zero i k one other l f g = cc
rising test x (suc count) i k one other l f g = by (test x) i k l f g (λ i k l f g. rising test (x + 1) count i k one other l f g) where
  by : (b : Bool) (i k : ℕ) → i < k → slice_get (present (cond b (x ∷ all_from test (x + 1) count) (all_from test (x + 1) count))) i ≡ Some (Some one) → slice_get (present (cond b (x ∷ all_from test (x + 1) count) (all_from test (x + 1) count))) k ≡ Some (Some other) → ((i k : ℕ) → i < k → slice_get (present (all_from test (x + 1) count)) i ≡ Some (Some one) → slice_get (present (all_from test (x + 1) count)) k ≡ Some (Some other) → one < other) → one < other
  by true zero zero l f g rest = absurd (omega arith)
  by true zero (suc k) l f g rest = let e : x ≡ one = cc in let low : x < other = later test x count k other g in omega arith
  by true (suc i) zero l f g rest = absurd (omega arith)
  by true (suc i) (suc k) l f g rest = rest i k (let m : i < k = omega arith in m) f g
  by false i k l f g rest = rest i k l f g

-- An edge's end is a node.
all_at : {X : Type 0} (P : X → Type 0) (xs : List X) (k : ℕ) (x : X) → All P xs → slice_get xs k ≡ Some x → P x
all_at P xs k x a e = subst P (get_or_from_slice_get xs k x x e) (All-get_or P xs k x (slice_get_within xs k x e) a)

pub edge_within : (graph : PlainGraph) → IsGraph graph → (kind : EdgeKind) (from to : ℕ) → HasEdge graph kind from to → to < length graph.nodes
edge_within graph g kind from to h = by (all_at (IsEdgeAmong graph.nodes) graph.edges h.position h.edge g.edges h.edge_is) where
  by : IsEdgeAmong graph.nodes h.edge → to < length graph.nodes
  by a = subst (λ (v : ℕ). v < length graph.nodes) h.to_is (slice_get_within graph.nodes h.edge.to a.to a.to_is)

children_are : (graph : PlainGraph) → IsGraph graph → (node : ℕ) → AreChildren graph node (children graph node)
children_are graph g node = record {
  each = λ k part e. by part (present_in (all_nodes graph (λ child. has_edge graph Ast node child)) k part e);
  all = λ child c. in_present (all_nodes graph (λ child. has_edge graph Ast node child)) child ((all_tell graph (λ child. has_edge graph Ast node child) (IsChild graph node) (tells_edge graph Ast node) (λ y h. edge_within graph g Ast node y h) child).1 c);
  rise = λ i k one other l f h. rising (λ child. has_edge graph Ast node child) 0 (length graph.nodes) i k one other l f h;
} where
  by : (part : Option ℕ) → (y : ℕ) × (part ≡ Some y) × IsIn (all_nodes graph (λ child. has_edge graph Ast node child)) y → (child : ℕ) × (part ≡ Some child) × IsChild graph node child
  by part (y, s, i) = (y, s, all_is (λ child. has_edge graph Ast node child) (IsChild graph node) (tells_edge graph Ast node) 0 (length graph.nodes) y i)

-- ---- Parts by their numbers.

numbered_count : (part : ℕ → Option ℕ) (j count : ℕ) → length (numbered_from part j count) ≡ count
unfolding numbered_from
numbered_count part j zero = refl
numbered_count part j (suc count) = let e : length (numbered_from part (j + 1) count) ≡ count = numbered_count part (j + 1) count in ap suc e

numbered_at : (part : ℕ → Option ℕ) (j count k : ℕ) (p : Option ℕ) → slice_get (numbered_from part j count) k ≡ Some p → part (j + k) ≡ p
unfolding numbered_from
numbered_at part j zero k p e = cc
numbered_at part j (suc count) zero p e = let f : part j ≡ p = cc in ap part (let s : j + 0 ≡ j = omega arith in s) ∙ f
numbered_at part j (suc count) (suc k) p e = ap part (let s : j + suc k ≡ (j + 1) + k = omega arith in s) ∙ numbered_at part (j + 1) count k p e

numbered_next : (part : ℕ → Option ℕ) (count k : ℕ) (p : Option ℕ) → slice_get (numbered_from part 1 count) k ≡ Some p → part (k + 1) ≡ p
numbered_next part count k p e = ap part (let s : k + 1 ≡ 1 + k = omega arith in s) ∙ numbered_at part 1 count k p e

numbered_are : (graph : PlainGraph) (node count : ℕ) → AreNumbered graph node count (numbered graph node count)
numbered_are graph node count = record {
  count_is = numbered_count (λ k. part_at graph k node) 1 count;
  each = λ k part e. subst (Finds (IsPart graph (k + 1) node)) (numbered_next (λ k. part_at graph k node) count k part e) (part_found graph (k + 1) node);
}

arguments_are : (graph : PlainGraph) (node count : ℕ) → AreArguments graph node count (arguments graph node count)
arguments_are graph node count = record {
  count_is = numbered_count (λ k. argument_at graph k node) 1 count;
  each = λ k part e. subst (Finds (IsArgument graph (k + 1) node)) (numbered_next (λ k. argument_at graph k node) count k part e) (argument_found graph (k + 1) node);
}

-- ---- A construct.

parts_are : (graph : PlainGraph) → IsGraph graph → (node : ℕ) (kind : Kind) → ArePartsOf graph node kind (parts_of graph node kind)
unfolding parts_of
parts_are graph g node function = refl
parts_are graph g node primary = refl
parts_are graph g node passed = refl
parts_are graph g node call = children_are graph g node
parts_are graph g node short_circuit = arguments_are graph node 2
parts_are graph g node conditional = arguments_are graph node 3
parts_are graph g node size_of = refl
parts_are graph g node block = children_are graph g node
parts_are graph g node if_statement = numbered_are graph node 3
parts_are graph g node while_loop = numbered_are graph node 2
parts_are graph g node do_loop = numbered_are graph node 2
parts_are graph g node for_loop = numbered_are graph node 4
parts_are graph g node switch_statement = numbered_are graph node 2
parts_are graph g node jump_target = record { statement = part_at graph 2 node; statement_is = part_found graph 2 node; parts_are = refl }
parts_are graph g node goto_jump = refl
parts_are graph g node break_jump = refl
parts_are graph g node continue_jump = refl
parts_are graph g node return_jump = numbered_are graph node 1
parts_are graph g node unknown = refl

rule_found : (P : ℕ → Type 0) (one other : Rule) (o : Option ℕ) → Finds P o → IsRuleBy P one other (rule_by o one other)
rule_found P one other None n = by_none n
rule_found P one other (Some x) h = by_some x h

rule_least : (P : ℕ → Type 0) (one other : Rule) (o : Option ℕ) → IsLeastOrNone P o → IsRuleBy P one other (rule_by o one other)
rule_least P one other None n = by_none n
rule_least P one other (Some x) h = by_some x h.is

rule_is : (graph : PlainGraph) (method node : ℕ) (kind : Kind) → IsRuleOf graph method node kind (rule_of graph method node kind)
unfolding rule_of
rule_is graph method node function = refl
rule_is graph method node primary = refl
rule_is graph method node passed = refl
rule_is graph method node call = refl
rule_is graph method node short_circuit = refl
rule_is graph method node conditional = refl
rule_is graph method node size_of = refl
rule_is graph method node block = refl
rule_is graph method node if_statement = refl
rule_is graph method node while_loop = refl
rule_is graph method node do_loop = refl
rule_is graph method node for_loop = rule_found (IsPart graph 2 node) rule.For rule.Endless (part_at graph 2 node) (part_found graph 2 node)
rule_is graph method node switch_statement = rule_least (IsDefaultOf graph method node) rule.SwitchDefault rule.Switch (least_node graph (is_default_of graph method node)) (least_all graph (is_default_of graph method node) (IsDefaultOf graph method node) (tells_default_of graph method node) (λ y d. node_within graph _ y d.is.is_node))
rule_is graph method node jump_target = refl
rule_is graph method node goto_jump = refl
rule_is graph method node break_jump = refl
rule_is graph method node continue_jump = refl
rule_is graph method node return_jump = refl
rule_is graph method node unknown = refl

lead_within : (graph : PlainGraph) (method node y : ℕ) → LeadsToLabel graph method node y ⊎ LeadsToCase graph method node y → y < length graph.nodes
lead_within graph method node y (inl l) = node_within graph (IsTargetNamed l.name) y l.label.is.is_target
lead_within graph method node y (inr c) = node_within graph _ y c.is.is_node

jumps_are : (graph : PlainGraph) (method node : ℕ) (kind : Kind) → AreJumpsOf graph method node (walked_construct graph method node kind)
jumps_are graph method node kind = record {
  targets = all_tell graph (leads_to graph method node) (λ target. LeadsToLabel graph method node target ⊎ LeadsToCase graph method node target) (tells_leads_to graph method node) (lead_within graph method node);
  breaks = all_tell graph (is_break_of graph method node) (IsBreakOf graph method node) (tells_break_of graph method node) (λ y b. node_within graph _ y b.is.is_node);
  continues = all_tell graph (is_continue_of graph method node) (IsContinueOf graph method node) (tells_continue_of graph method node) (λ y b. node_within graph _ y b.is.is_node);
}

construct_is : (graph : PlainGraph) → IsGraph graph → (method node : ℕ) (kind : Kind) → IsConstructOf graph method node kind (walked_construct graph method node kind)
construct_is graph g method node kind = record {
  rule_is = rule_is graph method node kind;
  parts = parts_are graph g node kind;
  jumps = jumps_are graph method node kind;
  end = return_found graph method;
}

found_is : (P : ℕ → Type 0) (x : ℕ) (o : Option ℕ) → Finds (IsLeast P) o → IsLeast P x → o ≡ Some x
found_is P x None n h = absurd (n x h)
found_is P x (Some y) f h = ap Some (one_least P y x f h)

function_is : (graph : PlainGraph) (method : ℕ) → HasBody graph method → IsFunctionOf graph method (function_construct graph method)
function_is graph method h = record {
  rule_is = refl;
  body = h.body;
  body_is = h.body_is;
  parts = ap (λ (o : Option ℕ). o ∷ []) (found_is _ h.body (block_at graph method) (block_found graph method) h.body_is);
  no_targets = refl;
  end = return_found graph method;
}

-- ---- The plan.

pub plan_count : (graph : PlainGraph) (method x : ℕ) (nodes : List PlainNode) → length (plan_from graph method x nodes) ≡ length nodes
unfolding plan_from
plan_count graph method x [] = refl
plan_count graph method x (node ∷ nodes) = let e : length (plan_from graph method (x + 1) nodes) ≡ length nodes = plan_count graph method (x + 1) nodes in ap suc e

abbrev IsPlannedAt : PlainGraph → ℕ → List PlainNode → ℕ → ℕ → Construct → Type 0
IsPlannedAt graph method nodes x k construct = (node : PlainNode) × (slice_get nodes k ≡ Some node) × (construct ≡ construct_of graph method (x + k) node)

planned_at : (graph : PlainGraph) (method x : ℕ) (nodes : List PlainNode) (k : ℕ) (construct : Construct) → slice_get (plan_from graph method x nodes) k ≡ Some construct → IsPlannedAt graph method nodes x k construct
unfolding plan_from
planned_at graph method x [] k construct e = cc
planned_at graph method x (node ∷ nodes) zero construct e = (node, refl, (let f : construct ≡ construct_of graph method x node = cc in f ∙ ap (λ (v : ℕ). construct_of graph method v node) (let s : x ≡ x + 0 = omega arith in s)))
planned_at graph method x (node ∷ nodes) (suc k) construct e = more (planned_at graph method (x + 1) nodes k construct e) where
  more : IsPlannedAt graph method nodes (x + 1) k construct → IsPlannedAt graph method (node ∷ nodes) x (suc k) construct
  more (at, is, f) = (at, is, f ∙ ap (λ (v : ℕ). construct_of graph method v at) (let s : (x + 1) + k ≡ x + suc k = omega arith in s))

pub planned : (graph : PlainGraph) (method k : ℕ) (construct : Construct) → slice_get (plan_of graph method) k ≡ Some construct → (node : PlainNode) × (slice_get graph.nodes k ≡ Some node) × (construct ≡ construct_of graph method k node)
planned graph method k construct e = by (planned_at graph method 0 graph.nodes k construct e) where
  by : IsPlannedAt graph method graph.nodes 0 k construct → (node : PlainNode) × (slice_get graph.nodes k ≡ Some node) × (construct ≡ construct_of graph method k node)
  by (node, is, f) = (node, is, f ∙ ap (λ (v : ℕ). construct_of graph method v node) (let s : 0 + k ≡ k = omega arith in s))

pub of_method : (graph : PlainGraph) (method : ℕ) (node : PlainNode) → construct_of graph method method node ≡ function_construct graph method
unfolding construct_of
of_method graph method node = ap (λ (b : Bool). cond b (function_construct graph method) (cond (is_walked graph method method) (walked_construct graph method method (kind_of node)) (other_construct graph method))) (eq-eqb method method refl)

not_equal : (x y : ℕ) → ¬ (x ≡ y) → (x == y) ≡ false
not_equal x y n = by (x == y) refl where
  by : (b : Bool) → (x == y) ≡ b → b ≡ false
  by true e = absurd (n (eqb-true x y e))
  by false e = refl

pub of_other : (graph : PlainGraph) (method number : ℕ) (node : PlainNode) (b : Bool) → ¬ (number ≡ method) → is_walked graph method number ≡ b → construct_of graph method number node ≡ cond b (walked_construct graph method number (kind_of node)) (other_construct graph method)
unfolding construct_of
of_other graph method number node b n e = ap (λ (v : Bool). cond v (function_construct graph method) (cond (is_walked graph method number) (walked_construct graph method number (kind_of node)) (other_construct graph method))) (not_equal number method n) ∙ ap (λ (v : Bool). cond v (walked_construct graph method number (kind_of node)) (other_construct graph method)) e

pub walked_below : (graph : PlainGraph) (method node : ℕ) → IsWalked graph method node → IsAbove graph.edges method node
walked_below graph method node (walk_body n b) = above_child graph method n b.is.is_child
walked_below graph method node (walk_below p q w c np nu) = above_further graph method p q (walked_below graph method p w) c

pub not_itself : (graph : PlainGraph) → IsShaped graph → (method number : ℕ) → IsWalked graph method number → ¬ (number ≡ method)
not_itself graph shaped method number w e = shaped.no_cycle method (walked_below graph method method (subst (IsWalked graph method) e w))

unwalked_is : (graph : PlainGraph) (method : ℕ) → IsUnwalked (other_construct graph method)
unwalked_is graph method = record { rule_is = refl; no_parts = refl; no_targets = refl }

one_node : (graph : PlainGraph) (k : ℕ) (one other : PlainNode) → slice_get graph.nodes k ≡ Some one → slice_get graph.nodes k ≡ Some other → one ≡ other
one_node graph k one other e f = cc

not_told : (graph : PlainGraph) (method number : ℕ) → ¬ IsWalked graph method number → is_walked graph method number ≡ false
not_told graph method number n = by (is_walked graph method number) refl where
  by : (b : Bool) → is_walked graph method number ≡ b → b ≡ false
  by true e = absurd (n ((tells_walked graph method number).yes e))
  by false e = refl

pub is_plan_of : (graph : PlainGraph) (method : ℕ) → IsGraph graph → IsShaped graph → HasBody graph method → IsPlanOf graph method (plan_of graph method)
is_plan_of graph method g shaped h = record {
  count = plan_count graph method 0 graph.nodes;
  function = λ construct e. by_function construct (planned graph method method construct e);
  walked = λ number node construct w is e. by_walked number node construct w is (planned graph method number construct e);
  others = λ number construct n u e. by_other number construct n u (planned graph method number construct e);
} where
  by_function : (construct : Construct) → (node : PlainNode) × (slice_get graph.nodes method ≡ Some node) × (construct ≡ construct_of graph method method node) → IsFunctionOf graph method construct
  by_function construct (node, is, e) = subst (IsFunctionOf graph method) (sym (e ∙ of_method graph method node)) (function_is graph method h)

  by_walked : (number : ℕ) (node : PlainNode) (construct : Construct) → IsWalked graph method number → slice_get graph.nodes number ≡ Some node → (at : PlainNode) × (slice_get graph.nodes number ≡ Some at) × (construct ≡ construct_of graph method number at) → IsConstructOf graph method number (kind_of node) construct
  by_walked number node construct w is (at, at_is, e) =
      let same : construct ≡ walked_construct graph method number (kind_of at) = e ∙ of_other graph method number at true (not_itself graph shaped method number w) ((tells_walked graph method number).told w) in
      subst (λ (v : PlainNode). IsConstructOf graph method number (kind_of v) construct) (one_node graph number at node at_is is) (subst (IsConstructOf graph method number (kind_of at)) (sym same) (construct_is graph g method number (kind_of at)))

  by_other : (number : ℕ) (construct : Construct) → ¬ (number ≡ method) → ¬ IsWalked graph method number → (at : PlainNode) × (slice_get graph.nodes number ≡ Some at) × (construct ≡ construct_of graph method number at) → IsUnwalked construct
  by_other number construct n u (at, at_is, e) = subst IsUnwalked (sym (e ∙ of_other graph method number at false n (not_told graph method number u))) (unwalked_is graph method)
