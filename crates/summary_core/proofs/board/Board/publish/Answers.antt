use Rattle.std.proofs.Common.{◌≡◌, ◌<◌, ◌≤◌, ℕ, List, length, take, get_or, set, ap, sym, ◌∙◌, subst, arith, false, Some}
use Rattle.std.specs.List.Sorted.{IsStrictlyIncreasing}
use Rattle.summary_core.specs.declared.task.Task.{Task}
use Rattle.summary_core.specs.Board.{BoardState, goals_of}
use Rattle.summary_core.specs.Searches.{IsFoundOf}
use Rattle.summary_core.specs.Events.{AddsNew, Flies}
use Rattle.matched_paths.specs.declared.flow_graph.Pair.{Pair}
use Rattle.std.proofs.Math.ListN.{length-set}
use Rattle.summary_core.specs.Agenda.{IsNoted, KeepsAgenda, Notes, Tells, TellsLatest}
use Rattle.summary_core.specs.Sound.{IsKeptBoard}
use Rattle.summary_core.specs.Knowing.{KnowsFront}
use Rattle.summary_core.proofs.Knowing.{knows_more}
use Rattle.summary_core.proofs.Landing.{asked_agenda, askers_within, publish_agenda}
use Rattle.summary_core.proofs.Publishing.{position_publishes, publish_kept}
use Rattle.summary_core.proofs.board.Board.publish.Goals as goal

pub note-requires : goal.note-requires
note-requires c = record {
  rise = subst (λ (ts : List Task). IsStrictlyIncreasing (goals_of ts)) (sym c.deref-3.ensures.value) c.self.invariant.0.sound.goals.rise;
  lists = c.self.invariant.2.lists ∙ ap length (sym c.deref-3.ensures.value);
}

pub invariant_of-self-2 : goal.invariant_of-self-2
invariant_of-self-2 c =
    let board : BoardState = record { flow = c.self.inside.flow.value; starts = c.self.inside.starts; history = c.self.inside.history.items; tasks = c.self.inside.tasks.items } in
    let task = c.index_mut-task.result.now in
    let position = c.in-Some.position in
    let within : position < length board.tasks = subst (λ (xs : List Task). position < length xs) c.deref.ensures.value c.in-Some.ensures.0 in
    let own : task.goal ≡ c.args.goal.vertex =
    ap (λ (t : Task). t.goal) c.index_mut-task.ensures.value ∙ subst (λ (xs : List Task). (get_or xs position task).goal ≡ c.args.goal.vertex) c.deref.ensures.value (c.in-Some.ensures.1 task) in
    let from : c.len-from.result ≡ length c.self.inside.history.items = omega (arith, c.len-from.ensures, c.self.inside.history.ok.0) in
    let len : c.len.result ≡ length c.add_pairs.new.history.items = omega (arith, c.len.ensures, c.add_pairs.new.history.ok.0) in
    let flies = subst (λ (b : BoardState). Flies b c.args.goal.vertex) (sym c.self.view_is) c.requires.flies in
    let seen = subst (λ (b : BoardState). c.args.found.seen ≤ length b.history) (sym c.self.view_is) c.requires.seen in
    let was_found = subst (λ (b : BoardState). IsFoundOf b.flow (take c.args.found.seen b.history) c.args.goal.vertex c.args.found) (sym c.self.view_is) c.requires.found in
    let adds = subst (λ (os : List ℕ). AddsNew board.history c.args.goal.vertex os c.add_pairs.new.history.items) c.items-2.ensures c.in_ok-add_pairs.ensures.ok in
    let front = subst (λ (h : List Pair). KnowsFront c.take_up.new.self h) c.deref-2.ensures.value c.in_ok-take_up.ensures.front in
    let notes = subst (λ (os : List ℕ). Notes board.tasks (record { task = position; seen = c.args.found.seen }) os c.self.inside.agenda c.note.new.self) c.items.ensures
    (subst (λ (ts : List Task). Notes ts (record { task = position; seen = c.args.found.seen }) c.items.result.now c.self.inside.agenda c.note.new.self) c.deref-3.ensures.value c.in_ok-note.ensures.notes) in
    let noted = subst (λ (os : List ℕ). IsNoted board.tasks (record { task = position; seen = c.args.found.seen }) os c.note.new.self) c.items.ensures
    (subst (λ (ts : List Task). IsNoted ts (record { task = position; seen = c.args.found.seen }) c.items.result.now c.note.new.self) c.deref-3.ensures.value c.in_ok-note.ensures.ok) in (
      publish_kept _ _ c.args.goal.vertex c.args.found c.self.invariant.0
          (position_publishes _ c.args.goal.vertex c.args.found c.add_pairs.new.history.items position task c.self.invariant.0.sound flies seen was_found adds within c.index_mut-task.ensures.value own),
      subst (λ (h : List Pair). KnowsFront c.take_up.new.self h) (sym adds.kept) (knows_more c.take_up.new.self board.history adds.new front),
      publish_agenda board c.self.inside.agenda c.note.new.self c.args.goal.vertex position task c.args.found c.self.invariant.0.sound c.self.invariant.2 (within, sym c.index_mut-task.ensures.value) own seen was_found notes c.put.new.self c.is_stale-stale.result noted
          (λ history tells. c.is_stale-stale.ensures history (subst (λ (ts : List Task). TellsLatest history ts c.note.new.self.latest.items) (sym c.deref-4.ensures.value) tells)) c.put.ensures c.add_pairs.new.history.items c.tell.new.self adds (λ less. c.tell.ensures.none (omega (arith, less, from, len)))
          (λ grown. subst (λ (n : ℕ). Tells (set board.tasks position (record task { stamp = Some (record { seen = c.args.found.seen; asked = c.args.found.asked }); flies = false })) position n (record c.note.new.self { marks = c.put.new.self }) c.tell.new.self) len
          (subst (λ (ts : List Task). Tells ts position c.len.result (record c.note.new.self { marks = c.put.new.self }) c.tell.new.self) c.deref-5.ensures.value (c.tell.ensures.some (omega (arith, grown, from, len))))),
    )

pub returns-clause-ok : goal.returns-clause-ok
returns-clause-ok c =
    let task = c.index_mut-task.result.now in
    let tasks = c.self.inside.tasks.items in
    let within : c.in-Some.position < length tasks = subst (λ (xs : List Task). c.in-Some.position < length xs) c.deref.ensures.value c.in-Some.ensures.0 in
    let own : task.goal ≡ c.args.goal.vertex =
    ap (λ (t : Task). t.goal) c.index_mut-task.ensures.value ∙ subst (λ (xs : List Task). (get_or xs c.in-Some.position task).goal ≡ c.args.goal.vertex) c.deref.ensures.value (c.in-Some.ensures.1 task) in
    let flies = subst (λ (b : BoardState). Flies b c.args.goal.vertex) (sym c.self.view_is) c.requires.flies in
    let seen = subst (λ (b : BoardState). c.args.found.seen ≤ length b.history) (sym c.self.view_is) c.requires.seen in
    let was_found = subst (λ (b : BoardState). IsFoundOf b.flow (take c.args.found.seen b.history) c.args.goal.vertex c.args.found) (sym c.self.view_is) c.requires.found in
    let adds = subst (λ (os : List ℕ). AddsNew c.self.inside.history.items c.args.goal.vertex os c.add_pairs.new.history.items) c.items-2.ensures c.in_ok-add_pairs.ensures.ok in
    rw (← c.self.view_is)
    (position_publishes _ c.args.goal.vertex c.args.found c.add_pairs.new.history.items c.in-Some.position task c.self.invariant.0.sound flies seen was_found adds within c.index_mut-task.ensures.value own)

pub invariant_of-self-in_err-note : goal.invariant_of-self-in_err-note
invariant_of-self-in_err-note c =
    let board : BoardState = record { flow = c.self.inside.flow.value; starts = c.self.inside.starts; history = c.self.inside.history.items; tasks = c.self.inside.tasks.items } in
    let position = c.in-Some.position in
    let within : position < length board.tasks = subst (λ (xs : List Task). position < length xs) c.deref.ensures.value c.in-Some.ensures.0 in
    let own : (d : Task) → (get_or board.tasks position d).goal ≡ c.args.goal.vertex = λ d. subst (λ (xs : List Task). (get_or xs position d).goal ≡ c.args.goal.vertex) c.deref.ensures.value (c.in-Some.ensures.1 d) in
    let seen = subst (λ (b : BoardState). c.args.found.seen ≤ length b.history) (sym c.self.view_is) c.requires.seen in
    let was_found = subst (λ (b : BoardState). IsFoundOf b.flow (take c.args.found.seen b.history) c.args.goal.vertex c.args.found) (sym c.self.view_is) c.requires.found in
    let notes = subst (λ (os : List ℕ). Notes board.tasks (record { task = position; seen = c.args.found.seen }) os c.self.inside.agenda c.note.new.self) c.items.ensures
    (subst (λ (ts : List Task). Notes ts (record { task = position; seen = c.args.found.seen }) c.items.result.now c.self.inside.agenda c.note.new.self) c.deref-3.ensures.value c.in_err-note.ensures.notes) in
    let keeps = asked_agenda board c.self.inside.agenda c.note.new.self c.args.goal.vertex position c.args.found c.self.invariant.0.sound c.self.invariant.2 within own seen was_found notes in
    let front = subst (λ (h : List Pair). KnowsFront c.take_up.new.self h) c.deref-2.ensures.value c.in_ok-take_up.ensures.front in
    (c.self.invariant.0, front, keeps)

pub invariant_of-self-in_err-add_pairs : goal.invariant_of-self-in_err-add_pairs
invariant_of-self-in_err-add_pairs c =
    let board : BoardState = record { flow = c.self.inside.flow.value; starts = c.self.inside.starts; history = c.self.inside.history.items; tasks = c.self.inside.tasks.items } in
    let position = c.in-Some.position in
    let within : position < length board.tasks = subst (λ (xs : List Task). position < length xs) c.deref.ensures.value c.in-Some.ensures.0 in
    let own : (d : Task) → (get_or board.tasks position d).goal ≡ c.args.goal.vertex = λ d. subst (λ (xs : List Task). (get_or xs position d).goal ≡ c.args.goal.vertex) c.deref.ensures.value (c.in-Some.ensures.1 d) in
    let seen = subst (λ (b : BoardState). c.args.found.seen ≤ length b.history) (sym c.self.view_is) c.requires.seen in
    let was_found = subst (λ (b : BoardState). IsFoundOf b.flow (take c.args.found.seen b.history) c.args.goal.vertex c.args.found) (sym c.self.view_is) c.requires.found in
    let notes = subst (λ (os : List ℕ). Notes board.tasks (record { task = position; seen = c.args.found.seen }) os c.self.inside.agenda c.note.new.self) c.items.ensures
    (subst (λ (ts : List Task). Notes ts (record { task = position; seen = c.args.found.seen }) c.items.result.now c.self.inside.agenda c.note.new.self) c.deref-3.ensures.value c.in_ok-note.ensures.notes) in
    let keeps = asked_agenda board c.self.inside.agenda c.note.new.self c.args.goal.vertex position c.args.found c.self.invariant.0.sound c.self.invariant.2 within own seen was_found notes in
    let front = subst (λ (h : List Pair). KnowsFront c.take_up.new.self h) c.deref-2.ensures.value c.in_ok-take_up.ensures.front in
    subst (λ (h : List Pair). IsKeptBoard (record board { history = h }) × KnowsFront c.take_up.new.self h × KeepsAgenda (record board { history = h }) c.note.new.self) (sym c.in_err-add_pairs.ensures.err) (c.self.invariant.0, front, keeps)

pub tell-requires-clause-within : goal.tell-requires-clause-within
tell-requires-clause-within c =
    let board : BoardState = record { flow = c.self.inside.flow.value; starts = c.self.inside.starts; history = c.self.inside.history.items; tasks = c.self.inside.tasks.items } in
    let position = c.in-Some.position in
    let within : position < length board.tasks = subst (λ (xs : List Task). position < length xs) c.deref.ensures.value c.in-Some.ensures.0 in
    let own : (d : Task) → (get_or board.tasks position d).goal ≡ c.args.goal.vertex = λ d. subst (λ (xs : List Task). (get_or xs position d).goal ≡ c.args.goal.vertex) c.deref.ensures.value (c.in-Some.ensures.1 d) in
    let seen = subst (λ (b : BoardState). c.args.found.seen ≤ length b.history) (sym c.self.view_is) c.requires.seen in
    let was_found = subst (λ (b : BoardState). IsFoundOf b.flow (take c.args.found.seen b.history) c.args.goal.vertex c.args.found) (sym c.self.view_is) c.requires.found in
    let notes = subst (λ (os : List ℕ). Notes board.tasks (record { task = position; seen = c.args.found.seen }) os c.self.inside.agenda c.note.new.self) c.items.ensures
    (subst (λ (ts : List Task). Notes ts (record { task = position; seen = c.args.found.seen }) c.items.result.now c.self.inside.agenda c.note.new.self) c.deref-3.ensures.value c.in_ok-note.ensures.notes) in
    let keeps = asked_agenda board c.self.inside.agenda c.note.new.self c.args.goal.vertex position c.args.found c.self.invariant.0.sound c.self.invariant.2 within own seen was_found notes in
    askers_within board c.note.new.self position c.deref-5.result.now keeps within (ap length c.deref-5.ensures.value ∙ length-set board.tasks position _)
