use Rattle.std.proofs.Common.{◌≡◌, ℕ, ◌<◌, inl, inr, List, length, get_or, refl, sym, ap, ◌∙◌, subst, arith}
use Rattle.std.proofs.lemmas.Bool.{cases_lt, false≢true}
use Rattle.summary_core.specs.Agenda.{HasLater}
use Rattle.summary_core.proofs.Noting.{none_stale, stale_at}
use Rattle.summary_core.proofs.agenda.Agenda.is_stale.Goals as goal

pub loop-goal-preserved : goal.loop-goal-preserved
loop-goal-preserved c history tells k less within later = elim (cases_lt k c.loop-goal.goal-index) [
  | inl before ↦ c.loop-goal.invariant history tells k before within later
  | inr not_before ↦
      let here : k ≡ c.loop-goal.goal-index = omega arith in
      let same : get_or c.args.stamp.now.asked k 0 ≡ get_or c.items-goal-items.result.now c.loop-goal.goal-index 0 = ap (λ (i : ℕ). get_or c.args.stamp.now.asked i 0) here ∙ ap (λ (xs : List ℕ). get_or xs c.loop-goal.goal-index 0) (sym c.items-goal-items.ensures) in
      let on = (c.has_later.ensures history tells).1 (subst (λ (g : ℕ). HasLater history g c.args.stamp.now.seen) same later) in
      let off = c.if-has_later.false in
      let no : ⊥ = cc in
      no
]

pub returns-then-has_later : goal.returns-then-has_later
returns-then-has_later c history tells =
    let inside : c.loop-goal.goal-index < length c.args.stamp.now.asked = omega (arith, c.loop-goal-test.true, ap length c.items-goal-items.ensures) in
    let same : get_or c.items-goal-items.result.now c.loop-goal.goal-index 0 ≡ get_or c.args.stamp.now.asked c.loop-goal.goal-index 0 = ap (λ (xs : List ℕ). get_or xs c.loop-goal.goal-index 0) c.items-goal-items.ensures in
    (λ on. stale_at history c.args.stamp.now c.loop-goal.goal-index inside (subst (λ (g : ℕ). HasLater history g c.args.stamp.now.seen) same ((c.has_later.ensures history tells).0 c.if-has_later.true)), λ stale. refl)

pub returns : goal.returns
returns c history tells = (
  λ on. absurd (false≢true on),
  λ stale. absurd (none_stale history c.args.stamp.now c.loop-goal.goal-index (omega (arith, c.loop-goal-test.false, ap length c.items-goal-items.ensures)) (c.loop-goal.invariant history tells) stale),
)
