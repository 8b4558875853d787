use Rattle.std.proofs.Common.{refl, sym, subst}
use Rattle.summary_core.specs.declared.task.Task.{Task}
use Rattle.summary_core.specs.Board.{BoardState, IsClaimable}
use Rattle.summary_core.specs.Claiming.{IsFirst}
use Rattle.summary_core.proofs.Agendas.{first_marked, none_marked}
use Rattle.summary_core.proofs.Claiming.{claim_kept, first_claims}
use Rattle.summary_core.proofs.Landing.{claim_agenda}
use Rattle.summary_core.proofs.board.Board.claim.Goals as goal

pub returns-in-None : goal.returns-in-None
returns-in-None c =
    rw (← c.self.view_is) (record { none = none_marked _ c.self.inside.agenda c.self.invariant.2 c.in-None.ensures; same = refl })

pub put-requires : goal.put-requires
put-requires c = record { tree = c.self.invariant.2.tree; below = c.in-Some.ensures.marked.below }

pub invariant_of-self : goal.invariant_of-self
invariant_of-self c =
    let board : BoardState = record { flow = c.self.inside.flow.value; starts = c.self.inside.starts; history = c.self.inside.history.items; tasks = c.self.inside.tasks.items } in
    let position = c.in-Some.position in
    let task = c.index_mut-task.result.now in
    let first : IsFirst board.history board.tasks position = first_marked board c.self.inside.agenda position c.self.invariant.2 c.in-Some.ensures in
    let claimable : IsClaimable board.history task = subst (λ (t : Task). IsClaimable board.history t) (sym c.index_mut-task.ensures.value) (first.claimable task) in (
      claim_kept _ _ _ c.self.invariant.0 (first_claims board position task c.self.invariant.0.sound first c.index_mut-task.ensures.value),
      c.self.invariant.1,
      claim_agenda board c.self.inside.agenda c.put.new.self position task c.self.invariant.2 (first.stands, sym c.index_mut-task.ensures.value) claimable c.put.ensures,
    )

pub returns : goal.returns
returns c =
    let board : BoardState = record { flow = c.self.inside.flow.value; starts = c.self.inside.starts; history = c.self.inside.history.items; tasks = c.self.inside.tasks.items } in
    let position = c.in-Some.position in
    let first : IsFirst board.history board.tasks position = first_marked board c.self.inside.agenda position c.self.invariant.2 c.in-Some.ensures in
    rw (← c.self.view_is) (first_claims board position c.index_mut-task.result.now c.self.invariant.0.sound first c.index_mut-task.ensures.value)
