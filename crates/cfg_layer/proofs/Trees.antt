-- The plan of a function of a shaped graph is a plan: no node is a part twice, and what is jumped to is a JUMP_TARGET.
use Rattle.std.proofs.Common.{ℕ, zero, suc, ◌≡◌, ◌+◌, ◌<◌, ◌≤◌, ◌⊎◌, inl, inr, Bool, true, false, List, [], ◌∷◌, Option, Some, None, slice_get, length, refl, sym, ◌∙◌, ap, subst, arith}
use Rattle.std.specs.Prelude.{◌==◌}
use Rattle.std.proofs.lemmas.Bool.{cases_lt, eqb-true, eq-eqb}
use Rattle.std.proofs.lemmas.Option.{slice_get_within}
use Rattle.std.proofs.Math.Nat.{eq-or-lt_of_le}
use Rattle.cpg_schema.specs.Graph.{PlainGraph, PlainNode}
use Rattle.cpg_schema.specs.Shape.{IsShaped}
use Rattle.graph_parts.specs.Finds.{Finds}
use Rattle.graph_parts.specs.Parts.{HasIndex, HasOrder, IsArgument, IsChild, IsNodeWith, IsPart}
use Rattle.graph_parts.proofs.Tree.{one_parent}
use Rattle.cfg_rules.specs.declared.rule.Rule.TheVariants as rule
use Rattle.cfg_rules.specs.Member.{IsIn}
use Rattle.cfg_rules.specs.Plan.{Construct, HasRule, IsPlan, JumpsTo, JumpsAt, RuleAt, part, parts_at, flat_part}
use Rattle.cfg_layer.specs.Kinds.{Kind, HasKind, IsCaseOrDefault, kind_of, call, short_circuit, conditional, block, if_statement, while_loop, do_loop, for_loop, switch_statement, jump_target, return_jump}
use Rattle.cfg_layer.specs.Walked.{IsWalked}
use Rattle.cfg_layer.specs.Jumps.{LeadsToLabel, LeadsToCase}
use Rattle.cfg_layer.specs.Constructs.{IsRuleOf, AreNumbered, AreArguments, AreChildren, AreOfTarget, ArePartsOf, IsConstructOf, IsFunctionOf}
use Rattle.cfg_layer.specs.Plans.{IsUnwalked, IsPlanOf}
use Rattle.cfg_layer.specs.Tested.{is_walked}
use Rattle.cfg_layer.proofs.Walking.{tells_walked}

-- ---- What a node of a plan is.

-- The function itself, a node that is walked in it, or another.
pub data IsSite (graph : PlainGraph) (method x : ℕ) (construct : Construct) : Type 0 where
  at_top : x ≡ method → IsFunctionOf graph method construct → IsSite graph method x construct
  at_walked : (node : PlainNode) → slice_get graph.nodes x ≡ Some node → IsWalked graph method x → IsConstructOf graph method x (kind_of node) construct → IsSite graph method x construct
  at_other : IsUnwalked construct → IsSite graph method x construct

read : {X : Type 0} (xs : List X) (k : ℕ) → k < length xs → (x : X) × (slice_get xs k ≡ Some x)
read [] k h = absurd (omega arith)
read (x ∷ xs) zero h = (x, refl)
read (x ∷ xs) (suc k) h = let m : suc k < suc (length xs) = h in read xs k (let l : k < length xs = omega arith in l)

pub site : (graph : PlainGraph) (method : ℕ) (plan : List Construct) → IsPlanOf graph method plan → (x : ℕ) (construct : Construct) → slice_get plan x ≡ Some construct → IsSite graph method x construct
site graph method plan p x construct e = by_number (x == method) refl where
  inside : x < length graph.nodes
  inside = let l : x < length plan = slice_get_within plan x construct e in subst (λ (n : ℕ). x < n) p.count l

  not_top : (x == method) ≡ false → ¬ (x ≡ method)
  not_top f s = let t : (x == method) ≡ true = eq-eqb x method s in cc

  by_walk : (b : Bool) → is_walked graph method x ≡ b → ¬ (x ≡ method) → IsSite graph method x construct
  by_walk true t n =
      let w : IsWalked graph method x = (tells_walked graph method x).yes t in
      let (node, is) = read graph.nodes x inside in
      at_walked node is w (p.walked x node construct w is e)
  by_walk false f n = at_other (p.others x construct n (λ w. (let t : is_walked graph method x ≡ true = (tells_walked graph method x).told w in cc)) e)

  by_number : (b : Bool) → (x == method) ≡ b → IsSite graph method x construct
  by_number true t = let s : x ≡ method = eqb-true x method t in at_top s (p.function construct (subst (λ (n : ℕ). slice_get plan n ≡ Some construct) s e))
  by_number false f = by_walk (is_walked graph method x) refl (not_top f)

-- ---- Parts.

-- All parts are children of the node, and no two are one.
pub record AreParts (graph : PlainGraph) (node : ℕ) (parts : List (Option ℕ)) : Type 0 where
  pub child : (k c : ℕ) → slice_get parts k ≡ Some (Some c) → IsChild graph node c
  pub apart : (k j c : ℕ) → slice_get parts k ≡ Some (Some c) → slice_get parts j ≡ Some (Some c) → k ≡ j

one_order : (graph : PlainGraph) (a b c : ℕ) → IsNodeWith graph (HasOrder a) c → IsNodeWith graph (HasOrder b) c → a ≡ b
one_order graph a b c one two =
    let same : one.node ≡ two.node = (let s : Some one.node ≡ Some two.node = sym one.node_is ∙ two.node_is in cc) in
    let order : Some a ≡ Some b = sym one.has ∙ (ap (λ (v : PlainNode). v.order) same ∙ two.has) in
    cc

one_index : (graph : PlainGraph) (a b c : ℕ) → IsNodeWith graph (HasIndex a) c → IsNodeWith graph (HasIndex b) c → a ≡ b
one_index graph a b c one two =
    let same : one.node ≡ two.node = (let s : Some one.node ≡ Some two.node = sym one.node_is ∙ two.node_is in cc) in
    let order : Some a ≡ Some b = sym one.has ∙ (ap (λ (v : PlainNode). v.argument_index) same ∙ two.has) in
    cc

parts_none : (graph : PlainGraph) (node : ℕ) (parts : List (Option ℕ)) → parts ≡ [] → AreParts graph node parts
parts_none graph node parts e = subst (AreParts graph node) (sym e) (record { child = λ k c h. cc; apart = λ k j c h g. cc })

parts_numbered : (graph : PlainGraph) (node count : ℕ) (parts : List (Option ℕ)) → AreNumbered graph node count parts → AreParts graph node parts
parts_numbered graph node count parts h = record {
  child = λ k c e. (let at : IsPart graph (k + 1) node c = h.each k (Some c) e in at.is.is_child);
  apart = λ k j c e f. (let one : IsPart graph (k + 1) node c = h.each k (Some c) e in let two : IsPart graph (j + 1) node c = h.each j (Some c) f in let same : k + 1 ≡ j + 1 = one_order graph (k + 1) (j + 1) c one.is.is_node two.is.is_node in omega arith);
}

parts_arguments : (graph : PlainGraph) (node count : ℕ) (parts : List (Option ℕ)) → AreArguments graph node count parts → AreParts graph node parts
parts_arguments graph node count parts h = record {
  child = λ k c e. (let at : IsArgument graph (k + 1) node c = h.each k (Some c) e in at.is.is_child);
  apart = λ k j c e f. (let one : IsArgument graph (k + 1) node c = h.each k (Some c) e in let two : IsArgument graph (j + 1) node c = h.each j (Some c) f in let same : k + 1 ≡ j + 1 = one_index graph (k + 1) (j + 1) c one.is.is_node two.is.is_node in omega arith);
}

parts_children : (graph : PlainGraph) (node : ℕ) (parts : List (Option ℕ)) → AreChildren graph node parts → AreParts graph node parts
parts_children graph node parts h = record {
  child = λ k c e. child_by c (h.each k (Some c) e);
  apart = λ k j c e f. by k j c e f (cases_lt k j);
} where
  child_by : (c : ℕ) → (child : ℕ) × (Some c ≡ Some child) × IsChild graph node child → IsChild graph node c
  child_by c (child, s, i) = subst (IsChild graph node) (let t : child ≡ c = cc in t) i

  equal : (k j c : ℕ) → slice_get parts k ≡ Some (Some c) → slice_get parts j ≡ Some (Some c) → (j ≡ k) ⊎ (j < k) → k ≡ j
  equal k j c e f (inl s) = sym s
  equal k j c e f (inr l) = let m : c < c = h.rise j k c c l f e in absurd (omega arith)

  by : (k j c : ℕ) → slice_get parts k ≡ Some (Some c) → slice_get parts j ≡ Some (Some c) → (k < j) ⊎ (j ≤ k) → k ≡ j
  by k j c e f (inl l) = let m : c < c = h.rise k j c c l e f in absurd (omega arith)
  by k j c e f (inr l) = equal k j c e f (eq-or-lt_of_le l)

second : (s : Option ℕ) (k c : ℕ) → slice_get (None ∷ s ∷ []) k ≡ Some (Some c) → (k ≡ 1) × (s ≡ Some c)
second s zero c e = cc
second s (suc zero) c e = (refl, (let f : s ≡ Some c = cc in f))
second s (suc (suc k)) c e = cc

parts_target : (graph : PlainGraph) (node : ℕ) (parts : List (Option ℕ)) → AreOfTarget graph node parts → AreParts graph node parts
parts_target graph node parts h = subst (AreParts graph node) (sym h.parts_are) (record {
  child = λ k c e. (let at : IsPart graph 2 node c = subst (Finds (IsPart graph 2 node)) (second h.statement k c e).1 h.statement_is in at.is.is_child);
  apart = λ k j c e f. (second h.statement k c e).0 ∙ sym (second h.statement j c f).0;
})

first_alone : (s : Option ℕ) (k c : ℕ) → slice_get (s ∷ []) k ≡ Some (Some c) → (k ≡ 0) × (s ≡ Some c)
first_alone s zero c e = (refl, (let f : s ≡ Some c = cc in f))
first_alone s (suc k) c e = cc

parts_function : (graph : PlainGraph) (method : ℕ) (construct : Construct) → IsFunctionOf graph method construct → AreParts graph method construct.parts
parts_function graph method construct h = subst (AreParts graph method) (sym h.parts) (record {
  child = λ k c e. (let same : Some h.body ≡ Some c = (first_alone (Some h.body) k c e).1 in subst (IsChild graph method) (let t : h.body ≡ c = cc in t) h.body_is.is.is_child);
  apart = λ k j c e f. (first_alone (Some h.body) k c e).0 ∙ sym (first_alone (Some h.body) j c f).0;
})

parts_of_kind : (graph : PlainGraph) (node : ℕ) (kind : Kind) (parts : List (Option ℕ)) → ArePartsOf graph node kind parts → AreParts graph node parts
parts_of_kind graph node call parts h = parts_children graph node parts h
parts_of_kind graph node short_circuit parts h = parts_arguments graph node 2 parts h
parts_of_kind graph node conditional parts h = parts_arguments graph node 3 parts h
parts_of_kind graph node block parts h = parts_children graph node parts h
parts_of_kind graph node if_statement parts h = parts_numbered graph node 3 parts h
parts_of_kind graph node while_loop parts h = parts_numbered graph node 2 parts h
parts_of_kind graph node do_loop parts h = parts_numbered graph node 2 parts h
parts_of_kind graph node for_loop parts h = parts_numbered graph node 4 parts h
parts_of_kind graph node switch_statement parts h = parts_numbered graph node 2 parts h
parts_of_kind graph node jump_target parts h = parts_target graph node parts h
parts_of_kind graph node return_jump parts h = parts_numbered graph node 1 parts h
parts_of_kind graph node _ parts h = parts_none graph node parts h

pub site_parts : (graph : PlainGraph) (method x : ℕ) (construct : Construct) → IsSite graph method x construct → AreParts graph x construct.parts
site_parts graph method x construct (at_top s f) = subst (λ (n : ℕ). AreParts graph n construct.parts) (sym s) (parts_function graph method construct f)
site_parts graph method x construct (at_walked node is w c) = parts_of_kind graph x (kind_of node) construct.parts c.parts
site_parts graph method x construct (at_other u) = parts_none graph x construct.parts u.no_parts

-- ---- The plan.

flat_some : (o : Option (Option ℕ)) (c : ℕ) → flat_part o ≡ Some c → o ≡ Some (Some c)
flat_some None c e = cc
flat_some (Some p) c e = ap Some e

pub record HasPart (plan : List Construct) (x k c : ℕ) : Type 0 where
  pub construct : Construct
  pub construct_is : slice_get plan x ≡ Some construct
  pub part_is : slice_get construct.parts k ≡ Some (Some c)

has_part : (plan : List Construct) (x k c : ℕ) → part plan x k ≡ Some c → HasPart plan x k c
unfolding part
has_part plan x k c e = by (slice_get plan x) refl e where
  by : (o : Option Construct) → slice_get plan x ≡ o → flat_part (slice_get (parts_at o) k) ≡ Some c → HasPart plan x k c
  by None s f = cc
  by (Some construct) s f = record { construct = construct; construct_is = s; part_is = flat_some (slice_get construct.parts k) c f }

target_label : (graph : PlainGraph) (method node target : ℕ) → LeadsToLabel graph method node target ⊎ LeadsToCase graph method node target → IsNodeWith graph (HasKind jump_target) target
target_label graph method node target (inl l) = let t = l.label.is.is_target in record { node = t.node; node_is = t.node_is; has = t.has.0 }
target_label graph method node target (inr c) = by c.is.is_node.has where
  by : IsCaseOrDefault c.is.is_node.node → IsNodeWith graph (HasKind jump_target) target
  by (inl h) = record { node = c.is.is_node.node; node_is = c.is.is_node.node_is; has = h.0 }
  by (inr h) = record { node = c.is.is_node.node; node_is = c.is.is_node.node_is; has = h.0 }

target_walked : (graph : PlainGraph) (method node target : ℕ) → LeadsToLabel graph method node target ⊎ LeadsToCase graph method node target → IsWalked graph method target
target_walked graph method node target (inl l) = l.walked
target_walked graph method node target (inr c) = c.is.walked

jumped_to : (graph : PlainGraph) (method : ℕ) (plan : List Construct) → IsPlanOf graph method plan → (target : ℕ) → IsWalked graph method target → IsNodeWith graph (HasKind jump_target) target → HasRule plan target rule.JumpTarget
unfolding HasRule
jumped_to graph method plan p target w at = by (read plan target (let l : target < length graph.nodes = slice_get_within graph.nodes target at.node at.node_is in subst (λ (n : ℕ). target < n) (sym p.count) l)) where
  by : (construct : Construct) × (slice_get plan target ≡ Some construct) → RuleAt (slice_get plan target) rule.JumpTarget
  by (construct, e) =
      let c : IsConstructOf graph method target (kind_of at.node) construct = p.walked target at.node construct w at.node_is e in
      let r : IsRuleOf graph method target jump_target construct.rule = subst (λ (k : Kind). IsRuleOf graph method target k construct.rule) at.has c.rule_is in
      subst (λ (o : Option Construct). RuleAt o rule.JumpTarget) (sym e) r

jumps : (graph : PlainGraph) (method : ℕ) (plan : List Construct) → IsPlanOf graph method plan → (x target : ℕ) → JumpsTo plan x target → HasRule plan target rule.JumpTarget
unfolding JumpsTo IsIn
jumps graph method plan p x target j = by (slice_get plan x) refl j where
  at : (construct : Construct) → IsSite graph method x construct → IsIn construct.targets target → HasRule plan target rule.JumpTarget
  at construct (at_top s f) i = absurd (subst (λ (ts : List ℕ). IsIn ts target) f.no_targets i)
  at construct (at_walked node is w c) i = let l = (c.jumps.targets target).0 i in jumped_to graph method plan p target (target_walked graph method x target l) (target_label graph method x target l)
  at construct (at_other u) i = absurd (subst (λ (ts : List ℕ). IsIn ts target) u.no_targets i)

  by : (o : Option Construct) → slice_get plan x ≡ o → JumpsAt o target → HasRule plan target rule.JumpTarget
  by None s k = absurd k
  by (Some construct) s k = at construct (site graph method plan p x construct s) k

pub plan_is : (graph : PlainGraph) (method : ℕ) (plan : List Construct) → IsShaped graph → IsPlanOf graph method plan → IsPlan plan
plan_is graph method plan shaped p = record { tree = λ x k y j c e f. tree x k y j c (has_part plan x k c e) (has_part plan y j c f); targets = jumps graph method plan p } where
  parts : (x k c : ℕ) (h : HasPart plan x k c) → AreParts graph x h.construct.parts
  parts x k c h = site_parts graph method x h.construct (site graph method plan p x h.construct h.construct_is)

  tree : (x k y j c : ℕ) → HasPart plan x k c → HasPart plan y j c → (x ≡ y) × (k ≡ j)
  tree x k y j c one two =
      let same : x ≡ y = one_parent graph shaped x y c ((parts x k c one).child k c one.part_is) ((parts y j c two).child j c two.part_is) in
      let here : slice_get plan x ≡ Some two.construct = ap (slice_get plan) same ∙ two.construct_is in
      let constructs : one.construct ≡ two.construct = (let s : Some one.construct ≡ Some two.construct = sym one.construct_is ∙ here in cc) in
      (same, (parts x k c one).apart k j c one.part_is (subst (λ (v : Construct). slice_get v.parts j ≡ Some (Some c)) (sym constructs) two.part_is))
