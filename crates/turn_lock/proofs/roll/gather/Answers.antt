use Rattle.std.proofs.Common.{◌++◌, refl, IfSome, length, ap, arith, subst, sym, ◌∙◌}
use Rattle.std.specs.Option.{option_to_list}
use Rattle.std.proofs.lemmas.List.Elements.{All-pop}
use Rattle.turn_lock.specs.Rolls.{IsDone}
use Rattle.turn_lock.specs.Seats.{own}
use Rattle.turn_lock.proofs.Rolls.{joined_weight}
use Rattle.turn_lock.proofs.roll.gather.Goals as goal

pub join-requires-clause-free : goal.join-requires-clause-free
join-requires-clause-free c =
    let i = c.loop-worker.invariant in
    let popped = All-pop (λ worker. IsDone c.args.turn.now worker.item worker.written worker.seat) _ _ _ c.pop.ensures.items i.1 in
    let done = subst (λ r. IfSome r (λ worker. IsDone c.args.turn.now worker.item worker.written worker.seat)) c.in-Some.is popped.1 in
    (i.0.free, done.seated.free)

pub loop-worker-preserved-then-all : goal.loop-worker-preserved-then-all
loop-worker-preserved-then-all c =
    let i = c.loop-worker.invariant in
    let popped = All-pop (λ worker. IsDone c.args.turn.now worker.item worker.written worker.seat) _ _ _ c.pop.ensures.items i.1 in
    let done = subst (λ r. IfSome r (λ worker. IsDone c.args.turn.now worker.item worker.written worker.seat)) c.in-Some.is popped.1 in
    let one = ap (λ r. length (option_to_list r)) c.in-Some.is in
    let len = c.pop.ensures.len in
    let j = c.join.ensures in
    let worker = c.in-Some.worker in
    let items = c.pop.ensures.items ∙ ap (λ r. c.pop.new.self.items ++ option_to_list r) c.in-Some.is in (
      record { turn_is = j.turn; free = j.free; shares_are = omega (arith, j.shares, i.0.shares_are, done.seated.shares_are, len, one, i.2) },
      popped.0,
      omega (arith, len, i.2),
      λ written weight.
          joined_weight weight (own c.loop-worker.seat) (own worker.seat) (own c.join.new.seat) worker.item c.pop.new.self.items worker _ (λ w. w.item) refl items j.own (i.3 c.if-all.true weight) (done.wrote written weight),
    )

pub loop-worker-preserved : goal.loop-worker-preserved
loop-worker-preserved c =
    let i = c.loop-worker.invariant in
    let popped = All-pop (λ worker. IsDone c.args.turn.now worker.item worker.written worker.seat) _ _ _ c.pop.ensures.items i.1 in
    let done = subst (λ r. IfSome r (λ worker. IsDone c.args.turn.now worker.item worker.written worker.seat)) c.in-Some.is popped.1 in
    let one = ap (λ r. length (option_to_list r)) c.in-Some.is in
    let len = c.pop.ensures.len in
    let j = c.join.ensures in (
      record { turn_is = j.turn; free = j.free; shares_are = omega (arith, j.shares, i.0.shares_are, done.seated.shares_are, len, one, i.2) },
      popped.0,
      omega (arith, len, i.2),
      λ all. absurd (let e = sym c.if-all.false ∙ all in cc),
    )
