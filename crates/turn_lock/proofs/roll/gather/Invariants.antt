use Rattle.std.proofs.Common.{ℕ, ◌≡◌, ◌+◌, ◌-◌, ◌≤◌, All, IsTrue, sum_by, vec_len}
use Rattle.turn_lock.specs.Rolls.{IsDone}
use Rattle.turn_lock.specs.Seats.{own, IsSeated}
use Rattle.turn_lock.proofs.roll.gather.Given as goal

abbrev pub invariant-loop-worker : goal.invariant-loop-worker
invariant-loop-worker l =
    IsSeated l.fn.turn (vec_len l.fn.workers + 1 - vec_len l.workers) l.seat
    × All (λ worker. IsDone l.fn.turn worker.item worker.written worker.seat) l.workers.items
    × (vec_len l.workers ≤ vec_len l.fn.workers)
    × (IsTrue l.all → (weight : ℕ → ℕ) →
    sum_by (λ own. weight own.entry) (own l.seat) + sum_by (λ worker. weight worker.item) l.workers.items
    ≡ sum_by (λ worker. weight worker.item) l.fn.workers.items)

abbrev pub decreases-loop-worker : goal.decreases-loop-worker
decreases-loop-worker l = goal.left-loop-worker l
