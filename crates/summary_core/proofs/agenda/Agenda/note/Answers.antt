use Rattle.std.proofs.Common.{◌≡◌, ◌<◌, ℕ, List, length, get_or, refl, ◌∙◌, subst, Option, MatchOption}
use Rattle.std.specs.List.{All}
use Rattle.summary_core.specs.declared.task.Task.{Task}
use Rattle.summary_core.specs.Agenda.{lists_of}
use Rattle.summary_core.proofs.Changing.{tasks_rise}
use Rattle.summary_core.proofs.Noting.{noting_end, noting_failed, noting_none, noting_one, noting_skip}
use Rattle.summary_core.proofs.agenda.Agenda.note.Goals as goal
use Rattle.summary_core.proofs.agenda.Agenda.note.Goals.{in-Some+in_ok-add, in_default}

abbrev Found : List Task → ℕ → Option ℕ → Type 0
Found tasks wanted found = MatchOption found (All (λ (task : Task). ¬ (task.goal ≡ wanted)) tasks) (λ position. (position < length tasks) × ((d : Task) → (get_or tasks position d).goal ≡ wanted))

pub loop-goal-init : goal.loop-goal-init
loop-goal-init c = noting_none c.args.tasks.now c.args.asker c.args.asked.now c.args.self.now

pub loop-goal-preserved : goal.loop-goal-preserved
loop-goal-preserved c =
    let tasks = c.args.tasks.now in
    let asked = c.args.asked.now in
    let index = c.loop-goal.goal-index in
    elim c.match-position_of.branch [
      | in-Some+in_ok-add w ↦
          let found = subst (λ (o : Option ℕ). Found tasks (get_or asked index 0) o) w.in-Some.is c.position_of.ensures in
          let len : length (lists_of c.loop-goal.self) ≡ length tasks = c.loop-goal.invariant.notes.len ∙ c.requires.lists in
          rw w.self-is
          (noting_one tasks c.args.asker asked c.args.self.now c.loop-goal.self index c.loop-goal.invariant _ w.in-Some.position refl refl w.in_ok-add.ensures.ok (tasks_rise tasks c.requires.rise) len found.0 found.1 c.loop-goal-test.true)
      | in_default w ↦
          rw w.self-is (noting_skip tasks c.args.asker asked c.args.self.now c.loop-goal.self index c.loop-goal.invariant (subst (λ (o : Option ℕ). Found tasks (get_or asked index 0) o) w.in_default.is c.position_of.ensures))
    ]

pub returns-clause-ok : goal.returns-clause-ok
returns-clause-ok c = noting_end c.args.tasks.now c.args.asker c.args.asked.now c.args.self.now c.loop-goal.self c.loop-goal.goal-index c.loop-goal-test.false c.loop-goal.invariant

pub returns-in_err-add-clause-notes : goal.returns-in_err-add-clause-notes
returns-in_err-add-clause-notes c = noting_failed c.args.tasks.now c.args.asker c.args.asked.now c.args.self.now c.loop-goal.self c.loop-goal.goal-index c.loop-goal.invariant _ refl refl c.in_err-add.ensures.err
