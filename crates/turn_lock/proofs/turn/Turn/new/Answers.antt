use Rattle.std.proofs.Common.{[], ◌∷◌, ◌++◌, Some, arith, ap, ◌∙◌}
use Rattle.turn_lock.proofs.Steps.{opens_at}
use Rattle.turn_lock.proofs.turn.Turn.new.Goals as goal

pub new-requires-2 : goal.new-requires-2
new-requires-2 g c =
    let value = c.args.value in
    let r = c.ranges.shares.fits in
    opens_at g.T.Kept.name g.T.Kept.history g.T.Kept.may_become _ _ value _
    (c.push_reserved.ensures.items ∙ ap (λ l. l ++ Some value ∷ []) c.in_ok-slots.ensures.items)
    c.of.ensures (omega (arith, c.from.ensures, r)) (omega (arith, c.from.ensures, c.requires.some))
    c.requires.empty (g.met.T.Kept.may_stay value)
