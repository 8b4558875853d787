-- The first claimable task is the one to claim.
use Rattle.std.proofs.Common.{◌≡◌, ℕ, ◌<◌, inl, inr, true, false, length, get_or, set, refl, sym, ap, ◌∙◌, arith, subst}
use Rattle.std.proofs.lemmas.Bool.{cases_lt}
use Rattle.std.proofs.lemmas.List.{get_or_default}
use Rattle.summary_core.specs.declared.task.Task.{Task}
use Rattle.summary_core.specs.Board.{BoardState, IsClaimable}
use Rattle.summary_core.specs.Claiming.{IsFirst}
use Rattle.summary_core.specs.Events.{Abandons, Claims, Flies}
use Rattle.summary_core.specs.Sound.{IsKeptBoard, IsSound}
use Rattle.summary_core.proofs.Changing.{tasks_rise, set_changed}
use Rattle.summary_core.proofs.Kept.{claim_sound, abandon_sound}

pub first_claims : (board : BoardState) (position : ℕ) (task : Task) → IsSound board → IsFirst board.history board.tasks position → task ≡ get_or board.tasks position task →
    Claims board task.goal (record board { tasks = set board.tasks position (record task { flies = true }) })
first_claims board position task sound first at =
    let rise = tasks_rise board.tasks sound.goals.rise in
    record {
      claimable = record { task = task; stands = (position, first.stands, sym at); of_goal = refl; so = subst (λ (t : Task). IsClaimable board.history t) (sym at) (first.claimable task) };
      least = λ k d inside less. elim (cases_lt k position) [
        | inl before ↦ first.first k d before
        | inr not_before ↦ absurd (elim (cases_lt position k) [
          | inl after ↦ let up = rise position k d after inside in let own = ap (λ (t : Task). t.goal) (at ∙ get_or_default board.tasks position task d first.stands) in omega (arith, up, own, less)
          | inr not_after ↦
              let here : k ≡ position = omega arith in
              let own = ap (λ (t : Task). t.goal) (at ∙ get_or_default board.tasks position task d first.stands) in
              let same = ap (λ (i : ℕ). (get_or board.tasks i d).goal) here in
              omega (arith, own, same, less)
        ])
      ];
      changes = ap (λ tasks. record board { tasks = tasks }) (set_changed task.goal (λ t. record t { flies = true }) board.tasks position task rise first.stands at refl);
    }

pub position_abandons : (board : BoardState) (goal position : ℕ) (task : Task) → IsSound board → Flies board goal → position < length board.tasks → task ≡ get_or board.tasks position task → task.goal ≡ goal →
    Abandons board goal (record board { tasks = set board.tasks position (record task { flies = false }) })
position_abandons board goal position task sound flies within at of_goal = record {
  flies = flies;
  changes = ap (λ tasks. record board { tasks = tasks }) (set_changed goal (λ t. record t { flies = false }) board.tasks position task (tasks_rise board.tasks sound.goals.rise) within at of_goal);
}

pub claim_kept : (board after : BoardState) (goal : ℕ) → IsKeptBoard board → Claims board goal after → IsKeptBoard after
claim_kept board after goal kept claims = record {
  starts = rw claims.changes kept.starts;
  sound = claim_sound board goal after kept.sound claims;
}

pub abandon_kept : (board after : BoardState) (goal : ℕ) → IsKeptBoard board → Abandons board goal after → IsKeptBoard after
abandon_kept board after goal kept abandons = record {
  starts = rw abandons.changes kept.starts;
  sound = abandon_sound board goal after kept.sound abandons;
}
