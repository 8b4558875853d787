use Rattle.std.proofs.Common.{◌≡◌, ◌<◌, List, length, get_or, ap, ◌∙◌, subst}
use Rattle.summary_core.specs.declared.task.Task.{Task}
use Rattle.summary_core.proofs.Changing.{tasks_rise, flight_is}
use Rattle.summary_core.proofs.board.Board.in_flight.Goals as goal

pub returns-in-Some : goal.returns-in-Some
returns-in-Some c =
    let task = c.index.result.now in
    let tasks = c.self.inside.tasks.items in
    let view = c.self.view_is in
    let within : c.in-Some.position < length tasks = subst (λ (xs : List Task). c.in-Some.position < length xs) c.deref.ensures.value c.in-Some.ensures.0 in
    let own : task.goal ≡ c.args.goal.vertex =
    ap (λ (t : Task). t.goal) c.index.ensures ∙ subst (λ (xs : List Task). (get_or xs c.in-Some.position task).goal ≡ c.args.goal.vertex) c.deref.ensures.value (c.in-Some.ensures.1 task) in
    rw (← view) (flight_is _ c.args.goal.vertex c.in-Some.position task (tasks_rise tasks c.self.invariant.0.sound.goals.rise) within c.index.ensures own)
