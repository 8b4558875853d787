-- The test of flow tells along which pairs control flows.
use Rattle.std.proofs.Common.{ℕ, ◌≡◌, ◌<◌, ◌↔◌, ◌⊎◌, inl, inr, List, [], ◌∷◌, Bool, true, false, cond, Option, Some, None, slice_get, length, refl, sym, ◌∙◌, ap, subst, arith}
use Rattle.std.specs.Prelude.{◌&&◌}
use Rattle.std.proofs.lemmas.Option.{slice_get_within}
use Rattle.cfg_rules.specs.Member.{IsIn}
use Rattle.cfg_rules.specs.Rules.{Tail, entry, out_of, stop, Head, into, mark, jump, finish, exit, arrow}
use Rattle.cfg_rules.specs.Plan.{Construct, HasArrow, arrows_at}
use Rattle.cfg_rules.specs.Walker.{gap, Position, enter, leave, mark_of, Step, by_rule, past_gap, by_break, by_continue, IsBetweenMarks, Runs, first, then, Flows}
use Rattle.cfg_edges.specs.Reaching.{IsReached, here, on, reaches}
use Rattle.cfg_edges.specs.Steps.{Move, all_moves, same_position}
use Rattle.cfg_edges.specs.Edges.{is_between, silent_moves, leads, flows, IsWithin}
use Rattle.cfg_edges.proofs.Bools.{and_both, both_and, or_either, or_left, or_right}
use Rattle.cfg_edges.proofs.Reached.{reached, reaches_all}
use Rattle.cfg_edges.proofs.Moves.{IsPast, gap_move, move_of, step_of, tells_position}

between_tells : (p : Position) → is_between p ≡ true → IsBetweenMarks p
between_tells (enter p) e = tt
between_tells (leave p) e = tt
between_tells (mark_of x) e = cc

between_told : (p : Position) → IsBetweenMarks p → is_between p ≡ true
between_told (enter p) b = refl
between_told (leave p) b = refl
between_told (mark_of x) b = absurd b

in_silent : (moves : List Move) (s : Move) → IsIn (silent_moves moves) s → IsIn moves s × (is_between s.0 ≡ true)
unfolding silent_moves IsIn
in_silent [] s i = absurd i
in_silent (m ∷ ms) s i = by (is_between m.0) refl (λ j. in_silent ms s j) i where
  by : (b : Bool) → is_between m.0 ≡ b → (IsIn (silent_moves ms) s → IsIn ms s × (is_between s.0 ≡ true)) → IsIn (cond b (m ∷ silent_moves ms) (silent_moves ms)) s → ((m ≡ s) ⊎ IsIn ms s) × (is_between s.0 ≡ true)
  by true e more (inl f) = (inl f, subst (λ (v : Move). is_between v.0 ≡ true) f e)
  by true e more (inr j) = (inr (more j).0, (more j).1)
  by false e more j = (inr (more j).0, (more j).1)

to_silent : (moves : List Move) (s : Move) → IsIn moves s → is_between s.0 ≡ true → IsIn (silent_moves moves) s
unfolding silent_moves IsIn
to_silent [] s i b = absurd i
to_silent (m ∷ ms) s (inl f) b =
    let at : is_between m.0 ≡ true = subst (λ (v : Move). is_between v.0 ≡ true) (sym f) b in
    subst (λ (v : Bool). IsIn (cond v (m ∷ silent_moves ms) (silent_moves ms)) s) (sym at) (inl f)
to_silent (m ∷ ms) s (inr i) b = by (is_between m.0) (to_silent ms s i b) where
  by : (v : Bool) → IsIn (silent_moves ms) s → IsIn (cond v (m ∷ silent_moves ms) (silent_moves ms)) s
  by true j = inr j
  by false j = j

-- ---- What the test finds is a run.

run_on : (plan : List Construct) (a : ℕ) (q r : Position) → Runs plan a q → IsReached (silent_moves (all_moves plan)) q r → Runs plan a r
run_on plan a q r run here = run
run_on plan a q r run (on u v w i) =
    let at = in_silent (all_moves plan) (u, v) i in
    then (run_on plan a q u run w) (between_tells u at.1) (step_of plan (u, v) at.0)

leads_tells : (plan : List Construct) (moves : List Move) (a b : ℕ) → ((s : Move) → IsIn moves s → IsIn (all_moves plan) s) → leads moves (silent_moves (all_moves plan)) a b ≡ true → Runs plan a (mark_of b)
unfolding leads IsIn
leads_tells plan [] a b all e = cc
leads_tells plan (m ∷ ms) a b all e = elim (or_either (same_position m.0 (mark_of a) && reaches same_position (silent_moves (all_moves plan)) m.1 (mark_of b)) (leads ms (silent_moves (all_moves plan)) a b) e) [
  | inl h ↦
      let both = and_both (same_position m.0 (mark_of a)) (reaches same_position (silent_moves (all_moves plan)) m.1 (mark_of b)) h in
      let from : m.0 ≡ mark_of a = tells_position.tells m.0 (mark_of a) both.0 in
      let step : Step plan (mark_of a) m.1 = subst (λ (p : Position). Step plan p m.1) from (step_of plan m (all m (inl refl))) in
      run_on plan a m.1 (mark_of b) (first step) (reached same_position tells_position (silent_moves (all_moves plan)) m.1 (mark_of b) both.1)
  | inr r ↦ leads_tells plan ms a b (λ s i. all s (inr i)) r
]

-- ---- Each run is found.

-- A step of the list begins at the mark, and from there silent ones lead to the position.
abbrev pub IsFound : List Construct → ℕ → Position → Type 0
IsFound plan a q = (s : Move) × IsIn (all_moves plan) s × (s.0 ≡ mark_of a) × IsReached (silent_moves (all_moves plan)) s.1 q

last_step : (plan : List Construct) (a : ℕ) (p : Position) → Runs plan a p → (q : Position) × Step plan q p
last_step plan a p (first s) = (mark_of a, s)
last_step plan a p (then {p = u} r b s) = (u, s)

listed : (plan : List Construct) (a : ℕ) (p q : Position) → Runs plan a p → Step plan p q → IsIn (all_moves plan) (p, q)
listed plan a p q run s = elim (move_of plan p q s) [
  | inl i ↦ i
  | inr past ↦ passed past (last_step plan a p run)
] where
  passed : IsPast p q → (u : Position) × Step plan u p → IsIn (all_moves plan) (p, q)
  passed (x, k, e, f) (u, t) =
      let i : IsIn (all_moves plan) (enter (gap x k), leave (gap x k)) = gap_move plan u x k (subst (λ (v : Position). Step plan u v) e t) in
      subst (λ (v : Position). IsIn (all_moves plan) (v, q)) (sym e) (subst (λ (v : Position). IsIn (all_moves plan) (enter (gap x k), v)) (sym f) i)

found : (plan : List Construct) (a : ℕ) (q : Position) → Runs plan a q → IsFound plan a q
found plan a q (first s) = elim (move_of plan (mark_of a) q s) [
  | inl i ↦ ((mark_of a, q), i, refl, here)
  | inr past ↦ no past
] where
  no : IsPast (mark_of a) q → IsFound plan a q
  no (x, k, e, f) = cc
found plan a q (then {p = p} run between s) = more (found plan a p run) where
  more : IsFound plan a p → IsFound plan a q
  more (m, i, from, w) = (m, i, from, on p q w (to_silent (all_moves plan) (p, q) (listed plan a p q run s) (between_told p between)))

leads_told : (moves : List Move) (silent : List Move) (a b : ℕ) (s : Move) → IsIn moves s → s.0 ≡ mark_of a → reaches same_position silent s.1 (mark_of b) ≡ true → leads moves silent a b ≡ true
unfolding leads IsIn
leads_told [] silent a b s i from to = absurd i
leads_told (m ∷ ms) silent a b s (inl e) from to =
    let begins : same_position m.0 (mark_of a) ≡ true = subst (λ (p : Position). same_position p (mark_of a) ≡ true) (sym from ∙ sym (ap (λ (v : Move). v.0) e)) (tells_position.one (mark_of a)) in
    let ends : reaches same_position silent m.1 (mark_of b) ≡ true = subst (λ (v : Move). reaches same_position silent v.1 (mark_of b) ≡ true) (sym e) to in
    or_left (same_position m.0 (mark_of a) && reaches same_position silent m.1 (mark_of b)) (leads ms silent a b) (both_and (same_position m.0 (mark_of a)) (reaches same_position silent m.1 (mark_of b)) begins ends)
leads_told (m ∷ ms) silent a b s (inr i) from to =
    or_right (same_position m.0 (mark_of a) && reaches same_position silent m.1 (mark_of b)) (leads ms silent a b) (leads_told ms silent a b s i from to)

pub flows_is : (plan : List Construct) (a b : ℕ) → (flows plan a b ≡ true) ↔ Flows plan a b
flows_is plan a b = (
  λ e. leads_tells plan (all_moves plan) a b (λ s i. i) e,
  λ run. by (found plan a (mark_of b) run),
) where
  by : IsFound plan a (mark_of b) → flows plan a b ≡ true
  by (s, i, from, w) = leads_told (all_moves plan) (silent_moves (all_moves plan)) a b s i from (reaches_all same_position tells_position (silent_moves (all_moves plan)) s.1 (mark_of b) w)

-- ---- Marks are among so many.

has_construct : (plan : List Construct) (x : ℕ) (t : Tail) (h : Head) → HasArrow plan x t h → x < length plan
unfolding HasArrow IsIn
has_construct plan x t h has = by (slice_get plan x) refl has where
  by : (o : Option Construct) → slice_get plan x ≡ o → IsIn (arrows_at o) (arrow t h) → x < length plan
  by None is i = absurd i
  by (Some c) is i = slice_get_within plan x c is

begins_within : (plan : List Construct) (count a : ℕ) (q : Position) → IsWithin count plan → Step plan (mark_of a) q → a < count
begins_within plan count a q w (by_rule x entry h has e at) = cc
begins_within plan count a q w (by_rule x (out_of k) h has e at) = cc
begins_within plan count a q w (by_rule x stop h has e at) =
    let low = has_construct plan x stop h has in
    let same : a ≡ x = cc in
    let all = w.constructs in
    omega arith
begins_within plan count a q w (past_gap x k e f) = cc
begins_within plan count a q w (by_break x c b e f) =
    let same : c ≡ a = cc in
    subst (λ (n : ℕ). n < count) same (w.breaks x c b)
begins_within plan count a q w (by_continue x c k b e f) =
    let same : c ≡ a = cc in
    subst (λ (n : ℕ). n < count) same (w.continues x c k b)

ends_within : (plan : List Construct) (count b : ℕ) (p : Position) → IsWithin count plan → Step plan p (mark_of b) → b < count
ends_within plan count b p w (by_rule x t (into k) has e at) = cc
ends_within plan count b p w (by_rule x t mark has e at) =
    let low = has_construct plan x t mark has in
    let same : b ≡ x = cc in
    let all = w.constructs in
    omega arith
ends_within plan count b p w (by_rule x t jump has e (target, j, at)) = cc
ends_within plan count b p w (by_rule x t finish has e (end, j, at)) =
    let same : end ≡ b = cc in
    subst (λ (n : ℕ). n < count) same (w.ends x end j)
ends_within plan count b p w (by_rule x t exit has e at) = cc
ends_within plan count b p w (past_gap x k e f) = cc
ends_within plan count b p w (by_break x c d e f) = cc
ends_within plan count b p w (by_continue x c k d e f) = cc

first_step : (plan : List Construct) (a : ℕ) (q : Position) → Runs plan a q → (p : Position) × Step plan (mark_of a) p
first_step plan a q (first s) = (q, s)
first_step plan a q (then {p = p} r b s) = first_step plan a p r

pub flow_within : (plan : List Construct) (count a b : ℕ) → IsWithin count plan → Flows plan a b → (a < count) × (b < count)
flow_within plan count a b w run = (from (first_step plan a (mark_of b) run), to (last_step plan a (mark_of b) run)) where
  from : (p : Position) × Step plan (mark_of a) p → a < count
  from (p, s) = begins_within plan count a p w s

  to : (p : Position) × Step plan p (mark_of b) → b < count
  to (p, s) = ends_within plan count b p w s
