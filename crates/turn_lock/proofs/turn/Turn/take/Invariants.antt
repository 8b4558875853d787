use Rattle.turn_lock.proofs.Waiting.{IsWaiting}
use Rattle.turn_lock.proofs.turn.Turn.take.Given as goal

abbrev pub invariant-loop : goal.invariant-loop
invariant-loop g l = IsWaiting l.ticket l.fn.seat l.seat
