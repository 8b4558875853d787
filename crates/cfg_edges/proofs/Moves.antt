-- The list of steps has those of the walker.
use Rattle.std.proofs.Common.{ℕ, zero, suc, ◌≡◌, ◌+◌, ◌⊎◌, inl, inr, List, [], ◌∷◌, ◌++◌, Bool, true, false, cond, Option, Some, None, slice_get, length, refl, sym, ◌∙◌, ap, subst, arith}
use Rattle.std.proofs.lemmas.Bool.{eqb-true, eq-eqb}
use Rattle.cfg_rules.specs.declared.rule.Rule.{Rule}
use Rattle.cfg_rules.specs.declared.rule.Rule.TheVariants as rule
use Rattle.cfg_rules.specs.Member.{IsIn}
use Rattle.cfg_rules.specs.Rules.{Tail, Head, into, mark, jump, finish, exit, Arrow, arrow, arrows, body, CanBreak, CanContinue}
use Rattle.cfg_rules.specs.Plan.{Construct, HasArrow, arrows_at, part, JumpsTo, JumpsAt, end_of, end_at, Breaks, BreaksAt, Continues, ContinuesAt}
use Rattle.cfg_rules.specs.Walker.{Place, node, gap, place, place_of, Position, enter, leave, mark_of, tail_position, HeadAt, Step, by_rule, past_gap, by_break, by_continue}
use Rattle.cfg_rules.proofs.Members.{in_left, in_right, in_either}
use Rattle.cfg_edges.specs.Steps.{Move, moves_to, moves_from, entered, marked, ends_of, past_of, arrow_moves, can_break, can_continue, break_moves, continue_moves, construct_moves, moves_of, all_moves, same_place, same_position}
use Rattle.cfg_edges.proofs.Bools.{and_both, both_and}
use Rattle.cfg_edges.proofs.Reached.{TellsSame}

-- ---- Which position is which.

place_itself : (one : Place) → same_place one one ≡ true
place_itself (node x) = eq-eqb x x refl
place_itself (gap x k) = both_and _ _ (eq-eqb x x refl) (eq-eqb k k refl)

place_tells : (one other : Place) → same_place one other ≡ true → one ≡ other
place_tells (node x) (node y) e = ap node (eqb-true x y e)
place_tells (node x) (gap y j) e = cc
place_tells (gap x k) (node y) e = cc
place_tells (gap x k) (gap y j) e =
    let both = and_both _ _ e in
    let first : x ≡ y = eqb-true x y both.0 in
    let second : k ≡ j = eqb-true k j both.1 in
    cc

position_itself : (one : Position) → same_position one one ≡ true
position_itself (enter p) = place_itself p
position_itself (leave p) = place_itself p
position_itself (mark_of x) = eq-eqb x x refl

position_tells : (one other : Position) → same_position one other ≡ true → one ≡ other
position_tells (enter p) (enter q) e = ap enter (place_tells p q e)
position_tells (enter p) (leave q) e = cc
position_tells (enter p) (mark_of y) e = cc
position_tells (leave p) (enter q) e = cc
position_tells (leave p) (leave q) e = ap leave (place_tells p q e)
position_tells (leave p) (mark_of y) e = cc
position_tells (mark_of x) (enter q) e = cc
position_tells (mark_of x) (leave q) e = cc
position_tells (mark_of x) (mark_of y) e = ap mark_of (eqb-true x y e)

pub tells_position : TellsSame same_position
tells_position = record { one = position_itself; tells = position_tells }

-- ---- Lists of steps.

in_moves_to : (p : Position) (qs : List Position) (s : Move) → IsIn (moves_to p qs) s → (s.0 ≡ p) × IsIn qs s.1
unfolding IsIn
in_moves_to p [] s i = absurd i
in_moves_to p (q ∷ qs) s (inl e) = (sym (ap (λ (v : Move). v.0) e), inl (ap (λ (v : Move). v.1) e))
in_moves_to p (q ∷ qs) s (inr i) = let rest : (s.0 ≡ p) × IsIn qs s.1 = in_moves_to p qs s i in (rest.0, inr rest.1)

to_moves : (p : Position) (qs : List Position) (q : Position) → IsIn qs q → IsIn (moves_to p qs) (p, q)
unfolding IsIn
to_moves p [] q i = absurd i
to_moves p (r ∷ qs) q (inl e) = inl (ap (λ (v : Position). (p, v)) e)
to_moves p (r ∷ qs) q (inr i) = inr (to_moves p qs q i)

in_moves_from : (marks : List ℕ) (q : Position) (s : Move) → IsIn (moves_from marks q) s → (a : ℕ) × IsIn marks a × (s.0 ≡ mark_of a) × (s.1 ≡ q)
unfolding IsIn
in_moves_from [] q s i = absurd i
in_moves_from (a ∷ marks) q s (inl e) = (a, inl refl, sym (ap (λ (v : Move). v.0) e), sym (ap (λ (v : Move). v.1) e))
in_moves_from (a ∷ marks) q s (inr i) = more (in_moves_from marks q s i) where
  more : (b : ℕ) × IsIn marks b × (s.0 ≡ mark_of b) × (s.1 ≡ q) → (b : ℕ) × IsIn (a ∷ marks) b × (s.0 ≡ mark_of b) × (s.1 ≡ q)
  more (b, j, from, to) = (b, inr j, from, to)

from_moves : (marks : List ℕ) (q : Position) (a : ℕ) → IsIn marks a → IsIn (moves_from marks q) (mark_of a, q)
unfolding IsIn
from_moves [] q a i = absurd i
from_moves (b ∷ marks) q a (inl e) = inl (ap (λ (v : ℕ). (mark_of v, q)) e)
from_moves (b ∷ marks) q a (inr i) = inr (from_moves marks q a i)

in_entered : (xs : List ℕ) (q : Position) → IsIn (entered xs) q → (t : ℕ) × IsIn xs t × (q ≡ enter (node t))
unfolding IsIn
in_entered [] q i = absurd i
in_entered (x ∷ xs) q (inl e) = (x, inl refl, sym e)
in_entered (x ∷ xs) q (inr i) = more (in_entered xs q i) where
  more : (t : ℕ) × IsIn xs t × (q ≡ enter (node t)) → (t : ℕ) × IsIn (x ∷ xs) t × (q ≡ enter (node t))
  more (t, j, e) = (t, inr j, e)

to_entered : (xs : List ℕ) (t : ℕ) → IsIn xs t → IsIn (entered xs) (enter (node t))
unfolding IsIn
to_entered [] t i = absurd i
to_entered (x ∷ xs) t (inl e) = inl (ap (λ (v : ℕ). enter (node v)) e)
to_entered (x ∷ xs) t (inr i) = inr (to_entered xs t i)

in_marked : (o : Option ℕ) (q : Position) → IsIn (marked o) q → (end : ℕ) × (o ≡ Some end) × (q ≡ mark_of end)
unfolding IsIn
in_marked None q i = absurd i
in_marked (Some x) q (inl e) = (x, refl, sym e)
in_marked (Some x) q (inr n) = absurd n

to_marked : (o : Option ℕ) (end : ℕ) (q : Position) → o ≡ Some end → q ≡ mark_of end → IsIn (marked o) q
unfolding IsIn
to_marked None end q e f = cc
to_marked (Some x) end q e f =
    let one : x ≡ end = cc in
    inl (ap mark_of one ∙ sym f)

-- ---- Arrows.

head_at : (plan : List Construct) (x : ℕ) (c : Construct) → slice_get plan x ≡ Some c → (h : Head) (q : Position) → IsIn (ends_of plan x c h) q → HeadAt plan x h q
unfolding IsIn JumpsTo end_of
head_at plan x c is (into k) q (inl e) = sym e
head_at plan x c is (into k) q (inr n) = absurd n
head_at plan x c is mark q (inl e) = sym e
head_at plan x c is mark q (inr n) = absurd n
head_at plan x c is jump q i = by (in_entered c.targets q i) where
  by : (t : ℕ) × IsIn c.targets t × (q ≡ enter (node t)) → (t : ℕ) × JumpsAt (slice_get plan x) t × (q ≡ enter (node t))
  by (t, j, e) = (t, subst (λ (o : Option Construct). JumpsAt o t) (sym is) j, e)
head_at plan x c is finish q i = by (in_marked c.method_return q i) where
  by : (end : ℕ) × (c.method_return ≡ Some end) × (q ≡ mark_of end) → (end : ℕ) × (end_at (slice_get plan x) ≡ Some end) × (q ≡ mark_of end)
  by (end, f, e) = (end, ap end_at is ∙ f, e)
head_at plan x c is exit q (inl e) = sym e
head_at plan x c is exit q (inr n) = absurd n

at_head : (plan : List Construct) (x : ℕ) (c : Construct) → slice_get plan x ≡ Some c → (h : Head) (q : Position) → HeadAt plan x h q → IsIn (ends_of plan x c h) q
unfolding IsIn JumpsTo end_of
at_head plan x c is (into k) q e = inl (sym e)
at_head plan x c is mark q e = inl (sym e)
at_head plan x c is jump q (t, j, e) = subst (λ (p : Position). IsIn (entered c.targets) p) (sym e) (to_entered c.targets t (subst (λ (o : Option Construct). JumpsAt o t) is j))
at_head plan x c is finish q (end, f, e) = to_marked c.method_return end q (sym (ap end_at is) ∙ f) e
at_head plan x c is exit q e = inl (sym e)

past_step : (plan : List Construct) (x : ℕ) (h : Head) (s : Move) → IsIn (past_of x h) s → Step plan s.0 s.1
unfolding IsIn
past_step plan x (into k) s (inl e) = past_gap x k (sym (ap (λ (v : Move). v.0) e)) (sym (ap (λ (v : Move). v.1) e))
past_step plan x (into k) s (inr n) = absurd n
past_step plan x mark s i = absurd i
past_step plan x jump s i = absurd i
past_step plan x finish s i = absurd i
past_step plan x exit s i = absurd i

arrow_step : (plan : List Construct) (x : ℕ) (c : Construct) → slice_get plan x ≡ Some c → (rs : List Arrow) → ((r : Arrow) → IsIn rs r → IsIn (arrows c.rule (length c.parts)) r) → (s : Move) → IsIn (arrow_moves plan x c rs) s → Step plan s.0 s.1
unfolding arrow_moves IsIn HasArrow
arrow_step plan x c is [] within s i = absurd i
arrow_step plan x c is (r ∷ rs) within s i = elim (in_either (moves_to (tail_position plan x r.from) (ends_of plan x c r.to)) (past_of x r.to ++ arrow_moves plan x c rs) s i) [
  | inl l ↦
      let at = in_moves_to (tail_position plan x r.from) (ends_of plan x c r.to) s l in
      by_rule x r.from r.to (subst (λ (o : Option Construct). IsIn (arrows_at o) (arrow r.from r.to)) (sym is) (within r (inl refl))) at.0 (head_at plan x c is r.to s.1 at.1)
  | inr o ↦ elim (in_either (past_of x r.to) (arrow_moves plan x c rs) s o) [
    | inl p ↦ past_step plan x r.to s p
    | inr m ↦ arrow_step plan x c is rs (λ v j. within v (inr j)) s m
  ]
]

step_arrow : (plan : List Construct) (x : ℕ) (c : Construct) → slice_get plan x ≡ Some c → (rs : List Arrow) (r : Arrow) (q : Position) → IsIn rs r → HeadAt plan x r.to q → IsIn (arrow_moves plan x c rs) (tail_position plan x r.from, q)
unfolding arrow_moves IsIn
step_arrow plan x c is [] r q i at = absurd i
step_arrow plan x c is (v ∷ rs) r q (inl e) at =
    let here : IsIn (moves_to (tail_position plan x r.from) (ends_of plan x c r.to)) (tail_position plan x r.from, q) = to_moves (tail_position plan x r.from) (ends_of plan x c r.to) q (at_head plan x c is r.to q at) in
    in_left (moves_to (tail_position plan x v.from) (ends_of plan x c v.to)) (past_of x v.to ++ arrow_moves plan x c rs) (tail_position plan x r.from, q) (subst (λ (w : Arrow). IsIn (moves_to (tail_position plan x w.from) (ends_of plan x c w.to)) (tail_position plan x r.from, q)) (sym e) here)
step_arrow plan x c is (v ∷ rs) r q (inr i) at =
    in_right (moves_to (tail_position plan x v.from) (ends_of plan x c v.to)) (past_of x v.to ++ arrow_moves plan x c rs) (tail_position plan x r.from, q) (in_right (past_of x v.to) (arrow_moves plan x c rs) (tail_position plan x r.from, q) (step_arrow plan x c is rs r q i at))

gap_arrow : (plan : List Construct) (x : ℕ) (c : Construct) (rs : List Arrow) (t : Tail) (k : ℕ) → IsIn rs (arrow t (into k)) → IsIn (arrow_moves plan x c rs) (enter (gap x k), leave (gap x k))
unfolding arrow_moves IsIn
gap_arrow plan x c [] t k i = absurd i
gap_arrow plan x c (v ∷ rs) t k (inl e) =
    let s : Move = (enter (gap x k), leave (gap x k)) in
    let here : IsIn (past_of x v.to) s = subst (λ (w : Arrow). IsIn (past_of x w.to) s) (sym e) (inl refl) in
    in_right (moves_to (tail_position plan x v.from) (ends_of plan x c v.to)) (past_of x v.to ++ arrow_moves plan x c rs) s (in_left (past_of x v.to) (arrow_moves plan x c rs) s here)
gap_arrow plan x c (v ∷ rs) t k (inr i) =
    let s : Move = (enter (gap x k), leave (gap x k)) in
    in_right (moves_to (tail_position plan x v.from) (ends_of plan x c v.to)) (past_of x v.to ++ arrow_moves plan x c rs) s (in_right (past_of x v.to) (arrow_moves plan x c rs) s (gap_arrow plan x c rs t k i))

-- ---- Jumps.

continue_tells : (r : Rule) → can_continue r ≡ true → CanContinue r
continue_tells rule.While e = tt
continue_tells rule.Do e = tt
continue_tells rule.For e = tt
continue_tells rule.Endless e = tt
continue_tells _ e = cc

continue_told : (r : Rule) → CanContinue r → can_continue r ≡ true
continue_told rule.While e = refl
continue_told rule.Do e = refl
continue_told rule.For e = refl
continue_told rule.Endless e = refl
continue_told _ e = absurd e

break_tells : (r : Rule) → can_break r ≡ true → CanBreak r
break_tells rule.While e = tt
break_tells rule.Do e = tt
break_tells rule.For e = tt
break_tells rule.Endless e = tt
break_tells rule.Switch e = tt
break_tells rule.SwitchDefault e = tt
break_tells _ e = cc

break_told : (r : Rule) → CanBreak r → can_break r ≡ true
break_told rule.While e = refl
break_told rule.Do e = refl
break_told rule.For e = refl
break_told rule.Endless e = refl
break_told rule.Switch e = refl
break_told rule.SwitchDefault e = refl
break_told _ e = absurd e

chosen : {X : Type 0} (b : Bool) (xs : List X) (x : X) → IsIn (cond b xs []) x → (b ≡ true) × IsIn xs x
unfolding IsIn
chosen true xs x i = (refl, i)
chosen false xs x i = absurd i

choose : {X : Type 0} (b : Bool) (xs : List X) (x : X) → b ≡ true → IsIn xs x → IsIn (cond b xs []) x
choose true xs x e i = i
choose false xs x e i = cc

break_step : (plan : List Construct) (x : ℕ) (c : Construct) → slice_get plan x ≡ Some c → (s : Move) → IsIn (break_moves x c) s → Step plan s.0 s.1
unfolding Breaks
break_step plan x c is s i =
    let which = chosen (can_break c.rule) (moves_from c.breaks (leave (node x))) s i in
    by (in_moves_from c.breaks (leave (node x)) s which.1) (break_tells c.rule which.0) where
      by : (a : ℕ) × IsIn c.breaks a × (s.0 ≡ mark_of a) × (s.1 ≡ leave (node x)) → CanBreak c.rule → Step plan s.0 s.1
      by (a, j, from, to) can = by_break x a (subst (λ (o : Option Construct). BreaksAt o a) (sym is) (j, can)) from to

continue_step : (plan : List Construct) (x : ℕ) (c : Construct) → slice_get plan x ≡ Some c → (s : Move) → IsIn (continue_moves plan x c) s → Step plan s.0 s.1
unfolding Continues
continue_step plan x c is s i =
    let which = chosen (can_continue c.rule) (moves_from c.continues (leave (place plan x (body c.rule)))) s i in
    by (in_moves_from c.continues (leave (place plan x (body c.rule))) s which.1) (continue_tells c.rule which.0) where
      by : (a : ℕ) × IsIn c.continues a × (s.0 ≡ mark_of a) × (s.1 ≡ leave (place plan x (body c.rule))) → CanContinue c.rule → Step plan s.0 s.1
      by (a, j, from, to) can = by_continue x a (body c.rule) (subst (λ (o : Option Construct). ContinuesAt o a (body c.rule)) (sym is) (j, can, refl)) from to

-- ---- Constructs.

construct_step : (plan : List Construct) (x : ℕ) (c : Construct) → slice_get plan x ≡ Some c → (s : Move) → IsIn (construct_moves plan x c) s → Step plan s.0 s.1
unfolding construct_moves
construct_step plan x c is s i = elim (in_either (arrow_moves plan x c (arrows c.rule (length c.parts))) (break_moves x c ++ continue_moves plan x c) s i) [
  | inl l ↦ arrow_step plan x c is (arrows c.rule (length c.parts)) (λ r j. j) s l
  | inr o ↦ elim (in_either (break_moves x c) (continue_moves plan x c) s o) [
    | inl b ↦ break_step plan x c is s b
    | inr t ↦ continue_step plan x c is s t
  ]
]

by_arrow : (plan : List Construct) (x : ℕ) (c : Construct) (s : Move) → IsIn (arrow_moves plan x c (arrows c.rule (length c.parts))) s → IsIn (construct_moves plan x c) s
unfolding construct_moves
by_arrow plan x c s i = in_left (arrow_moves plan x c (arrows c.rule (length c.parts))) (break_moves x c ++ continue_moves plan x c) s i

by_jump : (plan : List Construct) (x : ℕ) (c : Construct) (s : Move) → IsIn (break_moves x c) s ⊎ IsIn (continue_moves plan x c) s → IsIn (construct_moves plan x c) s
unfolding construct_moves
by_jump plan x c s (inl i) = in_right (arrow_moves plan x c (arrows c.rule (length c.parts))) (break_moves x c ++ continue_moves plan x c) s (in_left (break_moves x c) (continue_moves plan x c) s i)
by_jump plan x c s (inr i) = in_right (arrow_moves plan x c (arrows c.rule (length c.parts))) (break_moves x c ++ continue_moves plan x c) s (in_right (break_moves x c) (continue_moves plan x c) s i)

in_all : (plan : List Construct) (y : ℕ) (rest : List Construct) (k : ℕ) (c : Construct) (s : Move) → slice_get rest k ≡ Some c → IsIn (construct_moves plan (y + k) c) s → IsIn (moves_of plan y rest) s
unfolding moves_of
in_all plan y [] k c s e i = cc
in_all plan y (d ∷ cs) zero c s e i =
    let same : c ≡ d = cc in
    let at : y + 0 ≡ y = omega arith in
    in_left (construct_moves plan y d) (moves_of plan (y + 1) cs) s (subst (λ (n : ℕ). IsIn (construct_moves plan n d) s) at (subst (λ (v : Construct). IsIn (construct_moves plan (y + 0) v) s) same i))
in_all plan y (d ∷ cs) (suc k) c s e i =
    let at : y + suc k ≡ (y + 1) + k = omega arith in
    in_right (construct_moves plan y d) (moves_of plan (y + 1) cs) s (in_all plan (y + 1) cs k c s e (subst (λ (n : ℕ). IsIn (construct_moves plan n c) s) at i))

of_all : (plan : List Construct) (y : ℕ) (rest : List Construct) (s : Move) → IsIn (moves_of plan y rest) s → (k : ℕ) × (c : Construct) × (slice_get rest k ≡ Some c) × IsIn (construct_moves plan (y + k) c) s
unfolding moves_of IsIn
of_all plan y [] s i = absurd i
of_all plan y (d ∷ cs) s i = elim (in_either (construct_moves plan y d) (moves_of plan (y + 1) cs) s i) [
  | inl l ↦ (zero, d, refl, (let at : y ≡ y + 0 = omega arith in subst (λ (n : ℕ). IsIn (construct_moves plan n d) s) at l))
  | inr r ↦ more (of_all plan (y + 1) cs s r)
] where
  more : (k : ℕ) × (c : Construct) × (slice_get cs k ≡ Some c) × IsIn (construct_moves plan ((y + 1) + k) c) s → (k : ℕ) × (c : Construct) × (slice_get (d ∷ cs) k ≡ Some c) × IsIn (construct_moves plan (y + k) c) s
  more (k, c, e, j) = (suc k, c, e, (let at : (y + 1) + k ≡ y + suc k = omega arith in subst (λ (n : ℕ). IsIn (construct_moves plan n c) s) at j))

-- Each step of the list is one of the walker.
pub step_of : (plan : List Construct) (s : Move) → IsIn (all_moves plan) s → Step plan s.0 s.1
step_of plan s i = by (of_all plan 0 plan s i) where
  by : (k : ℕ) × (c : Construct) × (slice_get plan k ≡ Some c) × IsIn (construct_moves plan (0 + k) c) s → Step plan s.0 s.1
  by (k, c, e, j) =
      let at : 0 + k ≡ k = omega arith in
      construct_step plan k c e s (subst (λ (n : ℕ). IsIn (construct_moves plan n c) s) at j)

at_construct : (plan : List Construct) (x : ℕ) (c : Construct) (s : Move) → slice_get plan x ≡ Some c → IsIn (construct_moves plan x c) s → IsIn (all_moves plan) s
at_construct plan x c s is i =
    let at : x ≡ 0 + x = omega arith in
    in_all plan 0 plan x c s is (subst (λ (n : ℕ). IsIn (construct_moves plan n c) s) at i)

-- The step goes past a part that is left out.
abbrev pub IsPast : Position → Position → Type 0
IsPast p q = (x : ℕ) × (k : ℕ) × (p ≡ enter (gap x k)) × (q ≡ leave (gap x k))

-- Each step of the walker is one of the list, but for those past a part.
pub move_of : (plan : List Construct) (p q : Position) → Step plan p q → IsIn (all_moves plan) (p, q) ⊎ IsPast p q
unfolding HasArrow Breaks Continues IsIn
move_of plan p q (by_rule x t h has e at) = inl (found (slice_get plan x) refl has) where
  found : (o : Option Construct) → slice_get plan x ≡ o → IsIn (arrows_at o) (arrow t h) → IsIn (all_moves plan) (p, q)
  found None is i = absurd i
  found (Some c) is i =
      let s : IsIn (all_moves plan) (tail_position plan x t, q) = at_construct plan x c (tail_position plan x t, q) is (by_arrow plan x c (tail_position plan x t, q) (step_arrow plan x c is (arrows c.rule (length c.parts)) (arrow t h) q i at)) in
      subst (λ (v : Position). IsIn (all_moves plan) (v, q)) (sym e) s
move_of plan p q (past_gap x k e f) = inr (x, k, e, f)
move_of plan p q (by_break x a b e f) = inl (found (slice_get plan x) refl b) where
  found : (o : Option Construct) → slice_get plan x ≡ o → BreaksAt o a → IsIn (all_moves plan) (p, q)
  found None is n = absurd n
  found (Some c) is (i, can) =
      let s : IsIn (break_moves x c) (mark_of a, leave (node x)) = choose (can_break c.rule) (moves_from c.breaks (leave (node x))) (mark_of a, leave (node x)) (break_told c.rule can) (from_moves c.breaks (leave (node x)) a i) in
      let all : IsIn (all_moves plan) (mark_of a, leave (node x)) = at_construct plan x c (mark_of a, leave (node x)) is (by_jump plan x c (mark_of a, leave (node x)) (inl s)) in
      subst (λ (v : Position). IsIn (all_moves plan) (v, q)) (sym e) (subst (λ (v : Position). IsIn (all_moves plan) (mark_of a, v)) (sym f) all)
move_of plan p q (by_continue x a k b e f) = inl (found (slice_get plan x) refl b) where
  found : (o : Option Construct) → slice_get plan x ≡ o → ContinuesAt o a k → IsIn (all_moves plan) (p, q)
  found None is n = absurd n
  found (Some c) is (i, can, at) =
      let to : Position = leave (place plan x (body c.rule)) in
      let s : IsIn (continue_moves plan x c) (mark_of a, to) = choose (can_continue c.rule) (moves_from c.continues to) (mark_of a, to) (continue_told c.rule can) (from_moves c.continues to a i) in
      let all : IsIn (all_moves plan) (mark_of a, to) = at_construct plan x c (mark_of a, to) is (by_jump plan x c (mark_of a, to) (inr s)) in
      let f2 : q ≡ to = f ∙ ap (λ (n : ℕ). leave (place plan x n)) at in
      subst (λ (v : Position). IsIn (all_moves plan) (v, q)) (sym e) (subst (λ (v : Position). IsIn (all_moves plan) (mark_of a, v)) (sym f2) all)

gap_is : (y j x k : ℕ) (o : Option ℕ) → gap x k ≡ place_of y j o → (y ≡ x) × (j ≡ k)
gap_is y j x k None e = let one : y ≡ x = cc in let other : j ≡ k = cc in (one, other)
gap_is y j x k (Some c) e = cc

-- A part that is left out and that control comes to is passed by a step of the list.
pub gap_move : (plan : List Construct) (p : Position) (x k : ℕ) → Step plan p (enter (gap x k)) → IsIn (all_moves plan) (enter (gap x k), leave (gap x k))
unfolding HasArrow IsIn
gap_move plan p x k (by_rule y t (into j) has e at) = found (slice_get plan y) refl has where
  which : (y ≡ x) × (j ≡ k)
  which = let same : gap x k ≡ place_of y j (part plan y j) = cc in gap_is y j x k (part plan y j) same

  found : (o : Option Construct) → slice_get plan y ≡ o → IsIn (arrows_at o) (arrow t (into j)) → IsIn (all_moves plan) (enter (gap x k), leave (gap x k))
  found None is i = absurd i
  found (Some c) is i =
      let s : IsIn (all_moves plan) (enter (gap y j), leave (gap y j)) = at_construct plan y c (enter (gap y j), leave (gap y j)) is (by_arrow plan y c (enter (gap y j), leave (gap y j)) (gap_arrow plan y c (arrows c.rule (length c.parts)) t j i)) in
      subst (λ (v : ℕ). IsIn (all_moves plan) (enter (gap v k), leave (gap v k))) which.0 (subst (λ (v : ℕ). IsIn (all_moves plan) (enter (gap y v), leave (gap y v))) which.1 s)
gap_move plan p x k (by_rule y t mark has e at) = cc
gap_move plan p x k (by_rule y t jump has e (target, j, at)) = cc
gap_move plan p x k (by_rule y t finish has e (end, j, at)) = cc
gap_move plan p x k (by_rule y t exit has e at) = cc
gap_move plan p x k (past_gap y j e f) = cc
gap_move plan p x k (by_break y a b e f) = cc
gap_move plan p x k (by_continue y a j b e f) = cc
