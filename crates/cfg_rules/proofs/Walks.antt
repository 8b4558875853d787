-- The walker's flow is what the constructs join.
use Rattle.std.proofs.Common.{ℕ, ◌≡◌, ◌↔◌, List, Option, Some, None, refl, sym, ◌∙◌, ap, subst, inl}
use Rattle.cfg_rules.specs.Rules.{Tail, entry, out_of, stop, Head, into, mark, jump, finish, exit, arrows}
use Rattle.cfg_rules.specs.declared.rule.Rule.TheVariants.{JumpTarget}
use Rattle.cfg_rules.specs.Plan.{Construct, HasArrow, HasRule, part, part_count, JumpsTo, end_of, Breaks, Continues, IsPlan}
use Rattle.cfg_rules.specs.Walker.{node, gap, place_of, place, Position, enter, leave, mark_of, tail_position, HeadAt, Step, by_rule, past_gap, by_break, by_continue, IsBetweenMarks, Runs, first, then, Flows}
use Rattle.cfg_rules.specs.Joined.{Source, entered, after, Point, tail, head, Comes, begin, own, along, through, over, up, broke, continued, Goes, stops, jumps, finishes, inner}
use Rattle.cfg_rules.specs.Member.{IsIn}
use Rattle.cfg_rules.proofs.Exact.{IsClosed, complete, flow, rule_arrows}

-- A JUMP_TARGET that is entered comes to its mark, and without it to nothing else.
abbrev AtTarget : Point → Type 0
AtTarget (tail entry) = Unit {0}
AtTarget (head mark) = Unit {0}
AtTarget p = ⊥

abbrev IsNotEntered : Source → Type 0
IsNotEntered s = ¬ (s ≡ entered)

not_after : (a : ℕ) → ¬ (after a ≡ entered)
not_after a e = cc

at_target : {plan : List Construct} (x : ℕ) {p : Point} → HasRule plan x JumpTarget → Comes plan x entered p → AtTarget p
at_target {plan} x {p} rule c = by p (complete (arrows JumpTarget (part_count plan x)) (λ k s. IsNotEntered s) (λ k s. IsNotEntered s) (λ s. Unit {0}) IsNotEntered IsNotEntered IsNotEntered (rule_arrows plan x JumpTarget rule) closed c) where
  started : (s : Source) → s ≡ after x → IsNotEntered s
  started s e f = not_after x (sym e ∙ f)

  closed : IsClosed plan x (arrows JumpTarget (part_count plan x)) (λ k s. IsNotEntered s) (λ k s. IsNotEntered s) (λ s. Unit {0}) IsNotEntered IsNotEntered IsNotEntered
  closed = record {
    arrows = (λ s e. tt, (started, (λ s m. m, tt)));
    passed = λ k s u m. m;
    up = λ k a u. not_after a;
    broke = λ a r. not_after a;
  }

  by : (p : Point) → flow (λ k s. IsNotEntered s) (λ k s. IsNotEntered s) (λ s. Unit {0}) IsNotEntered IsNotEntered IsNotEntered x p entered → AtTarget p
  by (tail entry) m = tt
  by (tail stop) m = cc
  by (tail (out_of k)) m = m refl
  by (head mark) m = tt
  by (head (into k)) m = m refl
  by (head jump) m = m refl
  by (head finish) m = m refl
  by (head exit) m = m refl

enters_mark : (plan : List Construct) (x : ℕ) → HasRule plan x JumpTarget → HasArrow plan x entry mark
unfolding IsIn
enters_mark plan x rule = ((rule_arrows plan x JumpTarget rule).is entry mark).1 (inl refl)

-- After the mark a, control is at a point of x: from within; or it came in by the part that x is; or
-- By a jump to x.
data Here (plan : List Construct) (a : ℕ) : ℕ → Point → Type 0 where
  inside : {x : ℕ} {p : Point} → Comes plan x (after a) p → Here plan a x p
  outside : {x y j : ℕ} {p : Point} → Comes plan x entered p → Here plan a y (head (into j)) → part plan y j ≡ Some x → Here plan a x p
  jumped : {x y : ℕ} {p : Point} → Comes plan x entered p → Here plan a y (head jump) → JumpsTo plan y x → Here plan a x p

along_here : {plan : List Construct} {a x : ℕ} {t : Tail} {h : Head} → Here plan a x (tail t) → HasArrow plan x t h → Here plan a x (head h)
along_here (inside c) l = inside (along c l)
along_here (outside c h e) l = outside (along c l) h e
along_here (jumped c h e) l = jumped (along c l) h e

through_here : {plan : List Construct} {a y k x : ℕ} → Here plan a y (head (into k)) → part plan y k ≡ Some x → Comes plan x entered (head exit) → Here plan a y (tail (out_of k))
through_here (inside d) e c = inside (through d e c)
through_here (outside d h o) e c = outside (through d e c) h o
through_here (jumped d h o) e c = jumped (through d e c) h o

over_here : {plan : List Construct} {a y k : ℕ} → Here plan a y (head (into k)) → part plan y k ≡ None → Here plan a y (tail (out_of k))
over_here (inside d) e = inside (over d e)
over_here (outside d h o) e = outside (over d e) h o
over_here (jumped d h o) e = jumped (over d e) h o

moved_in : {plan : List Construct} {a : ℕ} (x k y j : ℕ) → x ≡ y → k ≡ j → Here plan a x (head (into k)) → Here plan a y (head (into j))
moved_in {plan} {a} x k y j e f h =
    let P : ℕ → Type 0 = λ v. Here plan a v (head (into k)) in
    let Q : ℕ → Type 0 = λ v. Here plan a y (head (into v)) in
    subst Q f (subst P e h)

moved_out : {plan : List Construct} {a : ℕ} (x k y j : ℕ) → x ≡ y → k ≡ j → Here plan a x (tail (out_of k)) → Here plan a y (tail (out_of j))
moved_out {plan} {a} x k y j e f h =
    let P : ℕ → Type 0 = λ v. Here plan a v (tail (out_of k)) in
    let Q : ℕ → Type 0 = λ v. Here plan a y (tail (out_of v)) in
    subst Q f (subst P e h)

leave_here : {plan : List Construct} {a : ℕ} (y k : ℕ) {x : ℕ} → IsPlan plan → Here plan a x (head exit) → part plan y k ≡ Some x → Here plan a y (tail (out_of k))
leave_here y k plan_is (inside c) e = inside (up e c)
leave_here y k {x = x} plan_is (outside {y = z} {j = j} c h o) e =
    let same : (z ≡ y) × (j ≡ k) = plan_is.tree z j y k x o e in
    through_here (moved_in z j y k same.0 same.1 h) e c
leave_here y k {x = x} plan_is (jumped {y = z} c h l) e = absurd (at_target x (plan_is.targets z x l) c)

node_part : (x k y : ℕ) (o : Option ℕ) → place_of x k o ≡ node y → o ≡ Some y
node_part x k y (Some c) e = cc
node_part x k y None e = cc

gap_part : (x k y j : ℕ) (o : Option ℕ) → place_of x k o ≡ gap y j → (o ≡ None) × (x ≡ y) × (k ≡ j)
gap_part x k y j (Some c) e = (cc, cc, cc)
gap_part x k y j None e = (cc, cc, cc)

same_place : (plan : List Construct) (x k y j : ℕ) → IsPlan plan → (o u : Option ℕ) → part plan x k ≡ o → part plan y j ≡ u → place_of x k o ≡ place_of y j u → (x ≡ y) × (k ≡ j)
same_place plan x k y j plan_is (Some c) (Some d) e f g = let same : c ≡ d = cc in plan_is.tree x k y j c e (f ∙ ap Some (sym same))
same_place plan x k y j plan_is (Some c) None e f g = (cc, cc)
same_place plan x k y j plan_is None (Some d) e f g = (cc, cc)
same_place plan x k y j plan_is None None e f g = (cc, cc)

data State (plan : List Construct) (a : ℕ) (p : Position) : Type 0 where
  at_head : (x : ℕ) (h : Head) → Here plan a x (head h) → HeadAt plan x h p → State plan a p
  at_out : (x k : ℕ) → Here plan a x (tail (out_of k)) → p ≡ leave (place plan x k) → State plan a p

no_mark : {p : Position} {x : ℕ} → IsBetweenMarks p → p ≡ mark_of x → ⊥
no_mark {p} {x} b e = subst IsBetweenMarks e b

to_entry : {plan : List Construct} {a : ℕ} {p : Position} (y : ℕ) → State plan a p → p ≡ enter (node y) → Here plan a y (tail entry)
to_entry {plan} y (at_head x (into k) h i) e =
    let same : place plan x k ≡ node y = cc in outside begin h (node_part x k y (part plan x k) same)
to_entry y (at_head x mark h i) e = cc
to_entry {plan} {a} y (at_head x jump h (t, l, i)) e =
    let same : t ≡ y = cc in jumped begin h (subst (λ (v : ℕ). JumpsTo plan x v) same l)
to_entry y (at_head x finish h (t, l, i)) e = cc
to_entry y (at_head x exit h i) e = cc
to_entry y (at_out x k h i) e = cc

to_out : {plan : List Construct} {a : ℕ} {p : Position} (y j : ℕ) → IsPlan plan → State plan a p → p ≡ leave (place plan y j) → Here plan a y (tail (out_of j))
to_out y j plan_is (at_head x (into k) h i) e = cc
to_out y j plan_is (at_head x mark h i) e = cc
to_out y j plan_is (at_head x jump h (t, l, i)) e = cc
to_out y j plan_is (at_head x finish h (t, l, i)) e = cc
to_out {plan} y j plan_is (at_head x exit h i) e =
    let same : place plan y j ≡ node x = cc in leave_here y j plan_is h (node_part y j x (part plan y j) same)
to_out {plan} y j plan_is (at_out x k h i) e =
    let both : place plan x k ≡ place plan y j = cc in
    let same : (x ≡ y) × (k ≡ j) = same_place plan x k y j plan_is (part plan x k) (part plan y j) refl refl both in
    moved_out x k y j same.0 same.1 h

to_tail : {plan : List Construct} {a : ℕ} {p : Position} (y : ℕ) (t : Tail) → IsPlan plan → State plan a p → IsBetweenMarks p → p ≡ tail_position plan y t → Here plan a y (tail t)
to_tail y entry plan_is s b e = to_entry y s e
to_tail y (out_of j) plan_is s b e = to_out y j plan_is s e
to_tail y stop plan_is s b e = absurd (no_mark b e)

past : {plan : List Construct} {a : ℕ} {p q : Position} (y j : ℕ) → State plan a p → p ≡ enter (gap y j) → q ≡ leave (gap y j) → State plan a q
past {plan} {q = q} y j (at_head x (into k) h i) e f =
    let same : place plan x k ≡ gap y j = cc in
    let at : (part plan x k ≡ None) × (x ≡ y) × (k ≡ j) = gap_part x k y j (part plan x k) same in
    at_out x k (over_here h at.0) (f ∙ ap leave (sym same))
past y j (at_head x mark h i) e f = cc
past y j (at_head x jump h (t, l, i)) e f = cc
past y j (at_head x finish h (t, l, i)) e f = cc
past y j (at_head x exit h i) e f = cc
past y j (at_out x k h i) e f = cc

next : {plan : List Construct} {a : ℕ} {p q : Position} → IsPlan plan → State plan a p → IsBetweenMarks p → Step plan p q → State plan a q
next plan_is s b (by_rule x t h l e i) = at_head x h (along_here (to_tail x t plan_is s b e) l) i
next plan_is s b (past_gap x k e f) = past x k s e f
next plan_is s b (by_break x a r e f) = absurd (no_mark b e)
next plan_is s b (by_continue x a k r e f) = absurd (no_mark b e)

own_mark : {plan : List Construct} (a x : ℕ) → mark_of a ≡ mark_of x → Comes plan x (after a) (tail stop)
own_mark {plan} a x e =
    let same : x ≡ a = cc in
    let P : ℕ → Type 0 = λ v. Comes plan x (after v) (tail stop) in
    subst P same own

begins : {plan : List Construct} {a : ℕ} {q : Position} → Step plan (mark_of a) q → State plan a q
begins (by_rule x entry h l e i) = cc
begins (by_rule x (out_of k) h l e i) = cc
begins {a = a} (by_rule x stop h l e i) = at_head x h (inside (along (own_mark a x e) l)) i
begins (past_gap x k e f) = cc
begins {plan} {a} (by_break x d r e f) =
    let same : d ≡ a = cc in
    let P : ℕ → Type 0 = λ v. Breaks plan x v in
    at_head x exit (inside (broke (subst P same r))) f
begins {plan} {a} (by_continue x d k r e f) =
    let same : d ≡ a = cc in
    let P : ℕ → Type 0 = λ v. Continues plan x v k in
    at_out x k (inside (continued (subst P same r))) f

state : {plan : List Construct} {a : ℕ} {q : Position} → IsPlan plan → Runs plan a q → State plan a q
state plan_is (first s) = begins s
state plan_is (then r b s) = next plan_is (state plan_is r) b s

enters : {plan : List Construct} {a y j x b : ℕ} → IsPlan plan → Here plan a y (head (into j)) → part plan y j ≡ Some x → Goes plan x entered b → (z : ℕ) × Goes plan z (after a) b
enters plan_is (inside d) e g = (_, inner d e g)
enters plan_is (outside d h o) e g = enters plan_is h o (inner d e g)
enters {y = y} plan_is (jumped {y = z} d h l) e g = absurd (at_target y (plan_is.targets z y l) d)

leads : {plan : List Construct} {a x b : ℕ} → IsPlan plan → Here plan a x (head jump) → JumpsTo plan x b → (z : ℕ) × Goes plan z (after a) b
leads plan_is (inside d) l = (_, jumps d l)
leads plan_is (outside d h o) l = enters plan_is h o (jumps d l)
leads {x = x} plan_is (jumped {y = z} d h o) l = absurd (at_target x (plan_is.targets z x o) d)

marks : {plan : List Construct} {a x : ℕ} → IsPlan plan → Here plan a x (head mark) → (z : ℕ) × Goes plan z (after a) x
marks plan_is (inside d) = (_, stops d)
marks plan_is (outside d h o) = enters plan_is h o (stops d)
marks plan_is (jumped d h o) = leads plan_is h o

finals : {plan : List Construct} {a x b : ℕ} → IsPlan plan → Here plan a x (head finish) → end_of plan x ≡ Some b → (z : ℕ) × Goes plan z (after a) b
finals plan_is (inside d) l = (_, finishes d l)
finals plan_is (outside d h o) l = enters plan_is h o (finishes d l)
finals {x = x} plan_is (jumped {y = z} d h o) l = absurd (at_target x (plan_is.targets z x o) d)

ends : {plan : List Construct} {a : ℕ} (b : ℕ) → IsPlan plan → State plan a (mark_of b) → (z : ℕ) × Goes plan z (after a) b
ends b plan_is (at_head x (into k) h i) = cc
ends {plan} {a} b plan_is (at_head x mark h i) =
    let same : x ≡ b = cc in
    let P : ℕ → Type 0 = λ v. (z : ℕ) × Goes plan z (after a) v in
    subst P same (marks plan_is h)
ends b plan_is (at_head x jump h (t, l, i)) = cc
ends {plan} {a} b plan_is (at_head x finish h (t, l, i)) =
    let same : t ≡ b = cc in
    let P : ℕ → Type 0 = λ v. (z : ℕ) × Goes plan z (after a) v in
    subst P same (finals plan_is h l)
ends b plan_is (at_head x exit h i) = cc
ends b plan_is (at_out x k h i) = cc

-- Where the source is, on a walk from the mark a.
Starts : List Construct → ℕ → ℕ → Source → Type 0
Starts plan a x entered = Runs plan a (enter (node x))
Starts plan a x (after d) = d ≡ a

Arrives : List Construct → ℕ → ℕ → Point → Type 0
Arrives plan a x (tail entry) = Runs plan a (enter (node x))
Arrives plan a x (tail (out_of k)) = Runs plan a (leave (place plan x k))
Arrives plan a x (tail stop) = x ≡ a
Arrives plan a x (head h) = (q : Position) → HeadAt plan x h q → Runs plan a q

by_arrow : (plan : List Construct) (a x : ℕ) (t : Tail) (h : Head) → HasArrow plan x t h → Arrives plan a x (tail t) → Arrives plan a x (head h)
unfolding Arrives
by_arrow plan a x entry h l r = λ q i. then r tt (by_rule x entry h l refl i)
by_arrow plan a x (out_of k) h l r = λ q i. then r tt (by_rule x (out_of k) h l refl i)
by_arrow plan a x stop h l r = λ q i. first (by_rule x stop h l (ap mark_of (sym r)) i)

carried : {plan : List Construct} (a : ℕ) {x : ℕ} {s : Source} {p : Point} → Comes plan x s p → Starts plan a x s → Arrives plan a x p
unfolding Starts Arrives
carried a begin r = r
carried a own r = r
carried {plan} a {x} (along {t = t} {h = h} c l) r = by_arrow plan a x t h l (carried a c r)
carried {plan} a {x} (through {k = k} {c = c} d e m) r =
    let P : Option ℕ → Type 0 = λ o. Runs plan a (enter (place_of x k o)) in
    let Q : Option ℕ → Type 0 = λ o. Runs plan a (leave (place_of x k o)) in
    subst Q (sym e) (carried a m (subst P e (carried a d r (enter (place plan x k)) refl)) (leave (node c)) refl)
carried {plan} a {x} (over {k = k} d e) r =
    let P : Option ℕ → Type 0 = λ o. Runs plan a (enter (place_of x k o)) in
    let Q : Option ℕ → Type 0 = λ o. Runs plan a (leave (place_of x k o)) in
    subst Q (sym e) (then (subst P e (carried a d r (enter (place plan x k)) refl)) tt (past_gap x k refl refl))
carried {plan} a {x} (up {k = k} {c = c} e m) r =
    let Q : Option ℕ → Type 0 = λ o. Runs plan a (leave (place_of x k o)) in
    subst Q (sym e) (carried a m r (leave (node c)) refl)
carried a {x} (broke {a = d} b) r = λ q i. first (by_break x d b (ap mark_of (sym r)) i)
carried {plan} a {x} (continued {a = d} {k = k} b) r = first (by_continue x d k b (ap mark_of (sym r)) refl)

run : {plan : List Construct} (a : ℕ) {x b : ℕ} {s : Source} → IsPlan plan → Goes plan x s b → Starts plan a x s → Runs plan a (mark_of b)
unfolding Starts Arrives
run a {b = b} plan_is (stops c) r = carried a c r (mark_of b) refl
run {plan} a {x} {b} plan_is (jumps c l) r =
    then (carried a c r (enter (node b)) (b, l, refl)) tt
    (by_rule b entry mark (enters_mark plan b (plan_is.targets x b l)) refl refl)
run a {b = b} plan_is (finishes c l) r = carried a c r (mark_of b) (b, l, refl)
run {plan} a {x} plan_is (inner {k = k} c e g) r =
    let P : Option ℕ → Type 0 = λ o. Runs plan a (enter (place_of x k o)) in
    run a plan_is g (subst P e (carried a c r (enter (place plan x k)) refl))

from_after : (plan : List Construct) (a x : ℕ) → Starts plan a x (after a)
unfolding Starts
from_after plan a x = refl

pub flow_is_joined : (plan : List Construct) → IsPlan plan → (a b : ℕ) → Flows plan a b ↔ ((x : ℕ) × Goes plan x (after a) b)
flow_is_joined plan plan_is a b = (λ r. ends b plan_is (state plan_is r), λ (x, g). run a plan_is g (from_after plan a x))
