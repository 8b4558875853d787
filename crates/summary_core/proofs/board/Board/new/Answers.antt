use Rattle.std.proofs.Common.{◌≡◌, ◌∙◌, ℕ, List, length, refl, sym, subst, arith}
use Rattle.summary_core.specs.Agenda.{IsFresh}
use Rattle.summary_core.specs.Board.{AreWanted, BoardState, goals_of}
use Rattle.summary_core.proofs.Agendas.{fresh_kept}
use Rattle.summary_core.proofs.Finishing.{wanted_of}
use Rattle.summary_core.proofs.Kept.{opening_sound}
use Rattle.summary_core.proofs.board.Board.new.Goals as goal

pub invariant_of-result : goal.invariant_of-result
invariant_of-result c =
    let board : BoardState = record { flow = c.args.flow.value; starts = c.args.starts; history = c.new-2.result.items; tasks = c.in_ok-tasks.tasks.items } in
    let len : c.len.result ≡ length board.tasks = omega (arith, c.len.ensures, c.in_ok-tasks.tasks.ok.0) in
    let goals : AreWanted board.flow board.starts (goals_of board.tasks) =
    subst (λ (gs : List ℕ). AreWanted board.flow board.starts gs) (sym (c.in_ok-tasks.ensures.goals ∙ c.deref-2.ensures.value))
    (wanted_of board.flow c.deref.result.now board.starts c.items.result.now c.in_ok-goals.goals.items c.deref.ensures c.items.ensures c.in_ok-goals.ensures) in (
      record {
        starts = c.requires;
        sound = opening_sound board.flow board.starts board (record { same_flow = refl; same_starts = refl; no_pairs = c.new-2.ensures.items; goals = goals; untouched = c.in_ok-tasks.ensures.untouched });
      },
      c.new-3.ensures board.history,
      fresh_kept board c.in_ok-agenda.agenda c.new-2.ensures.items c.in_ok-tasks.ensures.untouched (subst (λ (n : ℕ). IsFresh n c.in_ok-agenda.agenda) len c.in_ok-agenda.ensures),
    )
