use Rattle.std.proofs.Common.{ap, arith, sum_by, sym, ◌∙◌}
use Rattle.turn_lock.proofs.Entries.{weight_of_positioned}
use Rattle.turn_lock.proofs.Rolls.{sum_by_same, weight_written_back}
use Rattle.turn_lock.proofs.roll.run.Goals as goal

pub returns-then-all : goal.returns-then-all
returns-then-all g c weight =
    let here = weight_of_positioned weight 0 c.close-roll.result.items.items in
    let all = c.close-roll.ensures.whole (λ own. weight own.entry) in
    let added = c.gather-all.ensures.added c.if-all.true weight in
    let same = sum_by_same (λ worker. weight worker.item) _ _ c.visit_all.ensures.len (λ k d below. ap weight (c.visit_all.ensures.items k d below)) in
    let back = weight_written_back (λ worker. weight worker.item) _ c.visit_all.new.workers _ (omega (arith, c.visit_all.ensures.len, c.as_mut_slice.ensures.len)) in
    sym here ∙ sym all ∙ added ∙ back ∙ same ∙ ap (sum_by (λ worker. weight worker.item)) c.as_mut_slice.ensures.value ∙ c.seat_all.ensures.items weight
