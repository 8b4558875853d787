-- The new name has the next number.

use Rattle.std.proofs.Common.{◌≡◌, ◌∙◌, ◌+◌, [], ◌∷◌, sym, ap, arith}
use Rattle.std.proofs.Common.{length, length-append}
use Rattle.name_table.proofs.Placing.{IsTable-push, IsTable-pop, AreDistinct-push, same_without_last}
use Rattle.name_table.proofs.names.Names.add.Goals as goal

pub place-requires-clause-distinct : goal.place-requires-clause-distinct
place-requires-clause-distinct c = rw c.in_ok-push.ensures.ok
    (AreDistinct-push c.self.inside.texts c.args.name.now c.self.invariant.0
    (rw (sym c.self.view_is) at c.requires))

pub place-requires-clause-inside : goal.place-requires-clause-inside
place-requires-clause-inside c =
    let count = c.len-number.ensures in
    rw c.in_ok-push.ensures.ok
    (omega (arith, length-append c.self.inside.texts (c.args.name.now ∷ [])))

pub place-requires-clause-table : goal.place-requires-clause-table
place-requires-clause-table c = rw (c.in_ok-push.ensures.ok, c.len-number.ensures)
    (IsTable-push c.self.inside.texts c.args.name.now c.make_room.new.self c.make_room.ensures)

pub invariant_of-self-in-Ok : goal.invariant_of-self-in-Ok
invariant_of-self-in-Ok c =
    let grown : c.len-number.result + 1 ≡ length c.push.new.self =
    omega (
      arith,
      c.len-number.ensures,
      ap length c.in_ok-push.ensures.ok,
      length-append c.self.inside.texts (c.args.name.now ∷ []),
    ) in (
      rw c.in_ok-push.ensures.ok
          (AreDistinct-push c.self.inside.texts c.args.name.now c.self.invariant.0
          (rw (sym c.self.view_is) at c.requires)),
      rw (← grown) c.in-Ok.ensures.ok,
    )

module _ (c : goal.After-pop) where
  back : c.pop.new.self ≡ c.self.inside.texts
  back = same_without_last c.self.inside.texts c.pop.new.self c.args.name.now c.pop.ensures.0
      (sym c.in_ok-push.ensures.ok ∙ c.pop.ensures.1)

pub invariant_of-self-in-Err : goal.invariant_of-self-in-Err
invariant_of-self-in-Err c = rw (back c) (
  c.self.invariant.0,
  IsTable-pop c.self.inside.texts c.args.name.now c.place.new.self
      (rw (c.in_ok-push.ensures.ok, c.len-number.ensures) at c.in-Err.ensures.err),
)

pub returns-in-Err-clause-err : goal.returns-in-Err-clause-err
returns-in-Err-clause-err c = back c ∙ c.self.view_is
