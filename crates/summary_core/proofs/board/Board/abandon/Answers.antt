use Rattle.std.proofs.Common.{◌≡◌, ◌<◌, List, length, get_or, ap, sym, ◌∙◌, subst}
use Rattle.summary_core.specs.declared.task.Task.{Task}
use Rattle.summary_core.specs.Board.{BoardState}
use Rattle.summary_core.specs.Events.{Flies}
use Rattle.summary_core.proofs.Changing.{flight_is, tasks_rise}
use Rattle.summary_core.proofs.Claiming.{abandon_kept, position_abandons}
use Rattle.summary_core.proofs.Landing.{abandon_agenda, marks_put}
use Rattle.summary_core.proofs.board.Board.abandon.Goals as goal

pub put-requires : goal.put-requires
put-requires c =
    let within : c.in-Some.position < length c.self.inside.tasks.items = subst (λ (xs : List Task). c.in-Some.position < length xs) c.deref.ensures.value c.in-Some.ensures.0 in
    record { tree = c.self.invariant.2.tree; below = marks_put _ c.self.inside.agenda c.in-Some.position c.self.invariant.2 within }

pub invariant_of-self : goal.invariant_of-self
invariant_of-self c =
    let board : BoardState = record { flow = c.self.inside.flow.value; starts = c.self.inside.starts; history = c.self.inside.history.items; tasks = c.self.inside.tasks.items } in
    let task = c.index_mut.result.now in
    let tasks = c.self.inside.tasks.items in
    let within : c.in-Some.position < length tasks = subst (λ (xs : List Task). c.in-Some.position < length xs) c.deref.ensures.value c.in-Some.ensures.0 in
    let own : task.goal ≡ c.args.goal.vertex =
    ap (λ (t : Task). t.goal) c.index_mut.ensures.value ∙ subst (λ (xs : List Task). (get_or xs c.in-Some.position task).goal ≡ c.args.goal.vertex) c.deref.ensures.value (c.in-Some.ensures.1 task) in
    let flies = subst (λ (b : BoardState). Flies b c.args.goal.vertex) (sym c.self.view_is) c.requires in
    let flying = (flight_is board c.args.goal.vertex c.in-Some.position task (tasks_rise tasks c.self.invariant.0.sound.goals.rise) within c.index_mut.ensures.value own).1 flies in (
      abandon_kept _ _ c.args.goal.vertex c.self.invariant.0 (position_abandons _ c.args.goal.vertex c.in-Some.position task c.self.invariant.0.sound flies within c.index_mut.ensures.value own),
      c.self.invariant.1,
      abandon_agenda board c.self.inside.agenda c.put.new.self c.in-Some.position task c.self.invariant.2 (within, sym c.index_mut.ensures.value) flying c.put.ensures,
    )

pub returns : goal.returns
returns c =
    let task = c.index_mut.result.now in
    let tasks = c.self.inside.tasks.items in
    let within : c.in-Some.position < length tasks = subst (λ (xs : List Task). c.in-Some.position < length xs) c.deref.ensures.value c.in-Some.ensures.0 in
    let own : task.goal ≡ c.args.goal.vertex =
    ap (λ (t : Task). t.goal) c.index_mut.ensures.value ∙ subst (λ (xs : List Task). (get_or xs c.in-Some.position task).goal ≡ c.args.goal.vertex) c.deref.ensures.value (c.in-Some.ensures.1 task) in
    let flies = subst (λ (b : BoardState). Flies b c.args.goal.vertex) (sym c.self.view_is) c.requires in
    rw (← c.self.view_is) (position_abandons _ c.args.goal.vertex c.in-Some.position task c.self.invariant.0.sound flies within c.index_mut.ensures.value own)
