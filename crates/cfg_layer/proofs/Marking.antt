-- Which nodes control flows from and to: those of which the schema allows it.
use Rattle.std.proofs.Common.{ℕ, zero, suc, ◌≡◌, ◌+◌, ◌⊎◌, inl, inr, true, List, [], ◌∷◌, Option, Some, None, slice_get, length, refl, sym, ◌∙◌, ap, subst}
use Rattle.cpg_schema.specs.declared.label.Label.{Label}
use Rattle.cpg_schema.specs.declared.label.Label.TheVariants as label
use Rattle.cpg_schema.specs.Graph.{PlainGraph, PlainNode}
use Rattle.cpg_schema.specs.Schema.{is_among, step}
use Rattle.graph_parts.specs.Finds.{Finds}
use Rattle.graph_parts.specs.Parts.{IsChildOf, IsNodeWith}
use Rattle.cfg_rules.specs.declared.rule.Rule.{Rule}
use Rattle.cfg_rules.specs.declared.rule.Rule.TheVariants as rule
use Rattle.cfg_rules.specs.Member.{IsIn}
use Rattle.cfg_rules.specs.Rules.{Tail, entry, out_of, stop, Head, into, mark, jump, finish, exit, Arrow, arrow, arrows, in_order, CanBreak, CanContinue}
use Rattle.cfg_rules.specs.Plan.{Construct, HasArrow, arrows_at, Breaks, BreaksAt, Continues, ContinuesAt, end_of, end_at}
use Rattle.cfg_rules.specs.Walker.{node, Position, enter, leave, mark_of, HeadAt, Step, by_rule, past_gap, by_break, by_continue, Runs, first, then, Flows, tail_position}
use Rattle.cfg_layer.specs.Kinds.{Kind, kind_of, function, passed, block, if_statement, while_loop, do_loop, for_loop, switch_statement, unknown}
use Rattle.cfg_layer.specs.Constructs.{IsRuleBy, some as by_some, none as by_none, IsRuleOf, IsConstructOf}
use Rattle.cfg_layer.specs.Plans.{IsUnwalked, IsPlanOf}
use Rattle.cfg_layer.proofs.Trees.{IsSite, at_top, at_walked, at_other, site}

-- ---- Kinds with a mark.

abbrev IsMarked : Kind → Type 0
IsMarked function = ⊥
IsMarked passed = ⊥
IsMarked block = ⊥
IsMarked if_statement = ⊥
IsMarked while_loop = ⊥
IsMarked do_loop = ⊥
IsMarked for_loop = ⊥
IsMarked switch_statement = ⊥
IsMarked unknown = ⊥
IsMarked _ = Unit {0}

-- The label of a node with a mark.
abbrev pub HasStep : PlainNode → Type 0
HasStep at = is_among at.label step ≡ true

marked_label : (at : PlainNode) → IsMarked (kind_of at) → HasStep at
marked_label at m = by at.label m where
  by : (l : Label) → IsMarked (kind_of (record at { label = l })) → is_among l step ≡ true
  by label.Call m = refl
  by label.Identifier m = refl
  by label.Literal m = refl
  by label.FieldIdentifier m = refl
  by label.Return m = refl
  by label.ControlStructure m = refl
  by label.JumpTarget m = refl
  by _ m = absurd m

-- ---- Arrows that neither begin nor end at a mark.

abbrev IsQuietTail : Tail → Type 0
IsQuietTail stop = ⊥
IsQuietTail _ = Unit {0}

abbrev IsQuietHead : Head → Type 0
IsQuietHead mark = ⊥
IsQuietHead finish = ⊥
IsQuietHead _ = Unit {0}

abbrev IsQuiet : Arrow → Type 0
IsQuiet a = IsQuietTail a.from × IsQuietHead a.to

abbrev AreQuiet : List Arrow → Type 0
AreQuiet [] = Unit {0}
AreQuiet (a ∷ as_) = IsQuiet a × AreQuiet as_

quiet_in : (as_ : List Arrow) (a : Arrow) → AreQuiet as_ → IsIn as_ a → IsQuiet a
unfolding IsIn
quiet_in [] a q i = absurd i
quiet_in (b ∷ as_) a q (inl e) = subst IsQuiet e q.0
quiet_in (b ∷ as_) a q (inr i) = quiet_in as_ a q.1 i

quiet_order : (from : Tail) (k n : ℕ) → IsQuietTail from → AreQuiet (in_order from k n exit)
quiet_order from k zero t = ((t, tt), tt)
quiet_order from k (suc n) t = ((t, tt), quiet_order (out_of k) (k + 1) n tt)

-- The rules of kinds without a mark.
abbrev IsQuietRule : Rule → Type 0
IsQuietRule r = (n : ℕ) → AreQuiet (arrows r n)

quiet_for : (P : ℕ → Type 0) (r : Rule) → IsRuleBy P rule.For rule.Endless r → IsQuietRule r
quiet_for P r (by_some y p) = λ n. ((tt, tt), ((tt, tt), ((tt, tt), ((tt, tt), ((tt, tt), ((tt, tt), tt))))))
quiet_for P r (by_none p) = λ n. ((tt, tt), ((tt, tt), ((tt, tt), ((tt, tt), ((tt, tt), tt)))))

quiet_switch : (P : ℕ → Type 0) (r : Rule) → IsRuleBy P rule.SwitchDefault rule.Switch r → IsQuietRule r
quiet_switch P r (by_some y p) = λ n. ((tt, tt), ((tt, tt), ((tt, tt), tt)))
quiet_switch P r (by_none p) = λ n. ((tt, tt), ((tt, tt), ((tt, tt), ((tt, tt), tt))))

quiet_kind : (graph : PlainGraph) (method x : ℕ) (kind : Kind) (r : Rule) → IsRuleOf graph method x kind r → IsMarked kind ⊎ IsQuietRule r
quiet_kind graph method x function r h = inr (subst IsQuietRule (sym h) (λ n. ((tt, tt), tt)))
quiet_kind graph method x passed r h = inr (subst IsQuietRule (sym h) (λ n. ((tt, tt), tt)))
quiet_kind graph method x block r h = inr (subst IsQuietRule (sym h) (λ n. quiet_order entry 0 n tt))
quiet_kind graph method x if_statement r h = inr (subst IsQuietRule (sym h) (λ n. ((tt, tt), ((tt, tt), ((tt, tt), ((tt, tt), ((tt, tt), tt)))))))
quiet_kind graph method x while_loop r h = inr (subst IsQuietRule (sym h) (λ n. ((tt, tt), ((tt, tt), ((tt, tt), ((tt, tt), tt))))))
quiet_kind graph method x do_loop r h = inr (subst IsQuietRule (sym h) (λ n. ((tt, tt), ((tt, tt), ((tt, tt), ((tt, tt), tt))))))
quiet_kind graph method x for_loop r h = inr (quiet_for _ r h)
quiet_kind graph method x switch_statement r h = inr (quiet_switch _ r h)
quiet_kind graph method x unknown r h = inr (subst IsQuietRule (sym h) (λ n. ((tt, tt), ((tt, tt), ((tt, tt), tt)))))
quiet_kind graph method x _ r h = inl tt

-- ---- Where steps begin and end.

-- The mark from which control may flow: that of the function, or of a walked node that has one.
abbrev pub IsFrom : PlainGraph → ℕ → ℕ → Type 0
IsFrom graph method a = (a ≡ method) ⊎ IsNodeWith graph HasStep a

-- The mark to which it may flow.
abbrev pub IsTo : PlainGraph → ℕ → ℕ → Type 0
IsTo graph method b = IsNodeWith graph HasStep b ⊎ IsChildOf graph label.MethodReturn method b

-- Of an arrow of the node x of the plan.
abbrev IsLoud : PlainGraph → ℕ → ℕ → Construct → Type 0
IsLoud graph method x c = IsNodeWith graph HasStep x ⊎ ((a : Arrow) → IsIn (arrows c.rule (length c.parts)) a → IsQuiet a)

loud : (graph : PlainGraph) (method x : ℕ) (c : Construct) (at : PlainNode) → slice_get graph.nodes x ≡ Some at → IsConstructOf graph method x (kind_of at) c → IsLoud graph method x c
loud graph method x c at is h = elim (quiet_kind graph method x (kind_of at) c.rule h.rule_is) [
  | inl m ↦ inl (record { node = at; node_is = is; has = marked_label at m })
  | inr q ↦ inr (λ a i. quiet_in (arrows c.rule (length c.parts)) a (q (length c.parts)) i)
]

other_quiet : (c : Construct) → IsUnwalked c → (a : Arrow) → IsIn (arrows c.rule (length c.parts)) a → IsQuiet a
other_quiet c u a i = quiet_in (arrows c.rule (length c.parts)) a (subst (λ (r : Rule). AreQuiet (arrows r (length c.parts))) (sym u.rule_is) ((tt, tt), tt)) i

stops_at : (graph : PlainGraph) (method x : ℕ) (c : Construct) (head : Head) → IsSite graph method x c → IsIn (arrows c.rule (length c.parts)) (arrow stop head) → IsFrom graph method x
stops_at graph method x c head (at_top s f) i = inl s
stops_at graph method x c head (at_walked at is w h) i = elim (loud graph method x c at is h) [ inl m ↦ inr m | inr q ↦ absurd (q (arrow stop head) i).0 ]
stops_at graph method x c head (at_other u) i = absurd (other_quiet c u (arrow stop head) i).0

method_mark : (n : ℕ) (tail : Tail) → ¬ IsIn (arrows rule.Method n) (arrow tail mark)
unfolding IsIn
method_mark n tail (inl e) = let h : into 0 ≡ mark = ap (λ (v : Arrow). v.to) e in cc
method_mark n tail (inr (inl e)) = let h : finish ≡ mark = ap (λ (v : Arrow). v.to) e in cc
method_mark n tail (inr (inr (inl e))) = let h : exit ≡ mark = ap (λ (v : Arrow). v.to) e in cc
method_mark n tail (inr (inr (inr i))) = absurd i

marks_at : (graph : PlainGraph) (method x : ℕ) (c : Construct) (tail : Tail) → IsSite graph method x c → IsIn (arrows c.rule (length c.parts)) (arrow tail mark) → IsTo graph method x
marks_at graph method x c tail (at_top s f) i = absurd (method_mark (length c.parts) tail (subst (λ (r : Rule). IsIn (arrows r (length c.parts)) (arrow tail mark)) f.rule_is i))
marks_at graph method x c tail (at_walked at is w h) i = elim (loud graph method x c at is h) [ inl m ↦ inl m | inr q ↦ absurd (q (arrow tail mark) i).1 ]
marks_at graph method x c tail (at_other u) i = absurd (other_quiet c u (arrow tail mark) i).1

ends_at : (graph : PlainGraph) (method x : ℕ) (c : Construct) (tail : Tail) (end : ℕ) → IsSite graph method x c → IsIn (arrows c.rule (length c.parts)) (arrow tail finish) → c.method_return ≡ Some end → IsTo graph method end
ends_at graph method x c tail end (at_top s f) i e = inr (subst (Finds (IsChildOf graph label.MethodReturn method)) e f.end)
ends_at graph method x c tail end (at_walked at is w h) i e = inr (subst (Finds (IsChildOf graph label.MethodReturn method)) e h.end)
ends_at graph method x c tail end (at_other u) i e = absurd (other_quiet c u (arrow tail finish) i).1

breaks_from : (graph : PlainGraph) (method x a : ℕ) (c : Construct) → IsSite graph method x c → IsIn c.breaks a → CanBreak c.rule → IsFrom graph method a
breaks_from graph method x a c (at_top s f) i can = absurd (subst CanBreak f.rule_is can)
breaks_from graph method x a c (at_walked at is w h) i can = let b = (h.jumps.breaks a).0 i in inr (record { node = b.is.is_node.node; node_is = b.is.is_node.node_is; has = marked_label b.is.is_node.node (subst IsMarked (sym b.is.is_node.has) tt) })
breaks_from graph method x a c (at_other u) i can = absurd (subst CanBreak u.rule_is can)

continues_from : (graph : PlainGraph) (method x a : ℕ) (c : Construct) → IsSite graph method x c → IsIn c.continues a → CanContinue c.rule → IsFrom graph method a
continues_from graph method x a c (at_top s f) i can = absurd (subst CanContinue f.rule_is can)
continues_from graph method x a c (at_walked at is w h) i can = let b = (h.jumps.continues a).0 i in inr (record { node = b.is.is_node.node; node_is = b.is.is_node.node_is; has = marked_label b.is.is_node.node (subst IsMarked (sym b.is.is_node.has) tt) })
continues_from graph method x a c (at_other u) i can = absurd (subst CanContinue u.rule_is can)

mark_number : Position → ℕ
mark_number (mark_of x) = x
mark_number _ = 0

module _ (graph : PlainGraph) (method : ℕ) (plan : List Construct) (p : IsPlanOf graph method plan) where
  arrow_at : (x : ℕ) (a : Arrow) → IsIn (arrows_at (slice_get plan x)) a → (c : Construct) × IsSite graph method x c × (slice_get plan x ≡ Some c) × IsIn (arrows c.rule (length c.parts)) a
  unfolding IsIn
  arrow_at x a i = by (slice_get plan x) refl i where
    by : (o : Option Construct) → slice_get plan x ≡ o → IsIn (arrows_at o) a → (c : Construct) × IsSite graph method x c × (slice_get plan x ≡ Some c) × IsIn (arrows c.rule (length c.parts)) a
    by None e i = absurd i
    by (Some c) e i = (c, site graph method plan p x c e, e, i)

  from_stop : (x : ℕ) (head : Head) → HasArrow plan x stop head → IsFrom graph method x
  unfolding HasArrow
  from_stop x head i = by (arrow_at x (arrow stop head) i) where
    by : (c : Construct) × IsSite graph method x c × (slice_get plan x ≡ Some c) × IsIn (arrows c.rule (length c.parts)) (arrow stop head) → IsFrom graph method x
    by (c, s, e, j) = stops_at graph method x c head s j

  to_mark : (x : ℕ) (tail : Tail) → HasArrow plan x tail mark → IsTo graph method x
  unfolding HasArrow
  to_mark x tail i = by (arrow_at x (arrow tail mark) i) where
    by : (c : Construct) × IsSite graph method x c × (slice_get plan x ≡ Some c) × IsIn (arrows c.rule (length c.parts)) (arrow tail mark) → IsTo graph method x
    by (c, s, e, j) = marks_at graph method x c tail s j

  to_end : (x : ℕ) (tail : Tail) (end : ℕ) → HasArrow plan x tail finish → end_of plan x ≡ Some end → IsTo graph method end
  unfolding HasArrow end_of
  to_end x tail end i f = by (arrow_at x (arrow tail finish) i) where
    by : (c : Construct) × IsSite graph method x c × (slice_get plan x ≡ Some c) × IsIn (arrows c.rule (length c.parts)) (arrow tail finish) → IsTo graph method end
    by (c, s, e, j) = ends_at graph method x c tail end s j (ap end_at (sym e) ∙ f)

  from_break : (x a : ℕ) → Breaks plan x a → IsFrom graph method a
  unfolding Breaks
  from_break x a b = by (slice_get plan x) refl b where
    by : (o : Option Construct) → slice_get plan x ≡ o → BreaksAt o a → IsFrom graph method a
    by None e h = absurd h
    by (Some c) e h = breaks_from graph method x a c (site graph method plan p x c e) h.0 h.1

  from_continue : (x a k : ℕ) → Continues plan x a k → IsFrom graph method a
  unfolding Continues
  from_continue x a k b = by (slice_get plan x) refl b where
    by : (o : Option Construct) → slice_get plan x ≡ o → ContinuesAt o a k → IsFrom graph method a
    by None e h = absurd h
    by (Some c) e h = continues_from graph method x a c (site graph method plan p x c e) h.0 h.1

  from_tail : (x a : ℕ) (tail : Tail) (head : Head) → HasArrow plan x tail head → mark_of a ≡ tail_position plan x tail → IsFrom graph method a
  from_tail x a entry head i e = cc
  from_tail x a (out_of k) head i e = cc
  from_tail x a stop head i e = let same : a ≡ x = (let s : mark_of a ≡ mark_of x = e in cc) in subst (IsFrom graph method) (sym same) (from_stop x head i)

  begins : (a : ℕ) (q : Position) → Step plan (mark_of a) q → IsFrom graph method a
  begins a q (by_rule x tail head i e h) = from_tail x a tail head i e
  begins a q (past_gap x k e f) = cc
  begins a q (by_break x b br e f) = let same : a ≡ b = (let s : mark_of a ≡ mark_of b = e in cc) in subst (IsFrom graph method) (sym same) (from_break x b br)
  begins a q (by_continue x b k co e f) = let same : a ≡ b = (let s : mark_of a ≡ mark_of b = e in cc) in subst (IsFrom graph method) (sym same) (from_continue x b k co)

  to_head : (x b : ℕ) (tail : Tail) (head : Head) → HasArrow plan x tail head → HeadAt plan x head (mark_of b) → IsTo graph method b
  to_head x b tail (into k) i e = (let s : mark_of b ≡ enter _ = e in cc)
  to_head x b tail mark i e = let same : b ≡ x = (let s : mark_of b ≡ mark_of x = e in cc) in subst (IsTo graph method) (sym same) (to_mark x tail i)
  to_head x b tail jump i h = let s : mark_of b ≡ enter (node h.0) = h.2 in cc
  to_head x b tail finish i h = let same : b ≡ h.0 = (let s : mark_of b ≡ mark_of h.0 = h.2 in cc) in subst (IsTo graph method) (sym same) (to_end x tail h.0 i h.1)
  to_head x b tail exit i e = (let s : mark_of b ≡ leave (node x) = e in cc)

  ends : (q : Position) (b : ℕ) → Step plan q (mark_of b) → IsTo graph method b
  ends q b (by_rule x tail head i e h) = to_head x b tail head i h
  ends q b (past_gap x k e f) = cc
  ends q b (by_break x a br e f) = cc
  ends q b (by_continue x a k co e f) = (let s : mark_of b ≡ leave _ = f in cc)

  from_runs : (a : ℕ) (q : Position) → Runs plan a q → IsFrom graph method a
  from_runs a q (first s) = begins a q s
  from_runs a q (then r b s) = from_runs a _ r

  to_runs : (a b : ℕ) (q : Position) → q ≡ mark_of b → Runs plan a q → IsTo graph method b
  to_runs a b q e (first s) = ends (mark_of a) b (subst (λ (v : Position). Step plan (mark_of a) v) e s)
  to_runs a b q e (then {p = m} r w s) = ends m b (subst (λ (v : Position). Step plan m v) e s)

  -- From where to where control flows in the function.
  pub flows_among : (a b : ℕ) → Flows plan a b → IsFrom graph method a × IsTo graph method b
  flows_among a b f = (from_runs a (mark_of b) f, to_runs a b (mark_of b) refl f)
