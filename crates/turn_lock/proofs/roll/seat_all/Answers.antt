use Rattle.std.proofs.Common.{All, ap, arith, subst, sym, ◌∙◌, sum_by}
use Rattle.std.proofs.lemmas.List.Elements.{All-push}
use Rattle.std.proofs.lemmas.List.Sums.{sum_by_more, sum_by_push}
use Rattle.turn_lock.specs.Rolls.{IsReady}
use Rattle.turn_lock.proofs.roll.seat_all.Goals as goal

pub loop-item-preserved : goal.loop-item-preserved
loop-item-preserved c =
    let i = c.loop-item.invariant in
    let s = c.split.ensures in
    let push = c.push_reserved.ensures in (
      record { turn_is = s.turn.0; free = s.free.0; shares_are = omega (arith, s.left, i.0.shares_are, c.loop-item-test.true) },
      s.own.0 ∙ i.1,
      omega (arith, push.len, i.2),
      push.capacity ∙ i.3,
      subst (λ l. All (λ worker. IsReady c.args.turn.now worker.seat) l) (sym push.items)
          (All-push (λ worker. IsReady c.args.turn.now worker.seat) c.loop-item.workers.items _ i.4
          (record { seated = record { turn_is = s.turn.1; free = s.free.1; shares_are = s.shares }; none = s.own.1 })),
      λ weight.
          let a = ap (sum_by (λ worker. weight worker.item)) push.items ∙ sum_by_push (λ worker. weight worker.item) c.loop-item.workers.items _ in
          let d = sum_by_more weight c.args.items.now c.loop-item.item-index 0 c.loop-item-test.true in
          omega (arith, a, d, i.5 weight),
    )
