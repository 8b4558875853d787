use Rattle.std.proofs.Common.{ℕ, ◌≡◌, ◌+◌, ◌-◌, [], All, length, sum_by, take, vec_len}
use Rattle.std.specs.Vec.{vec_capacity}
use Rattle.turn_lock.specs.Rolls.{IsReady}
use Rattle.turn_lock.specs.Seats.{own, IsSeated}
use Rattle.turn_lock.proofs.roll.seat_all.Given as goal

abbrev pub invariant-loop-item : goal.invariant-loop-item
invariant-loop-item l =
    IsSeated l.fn.turn (length l.fn.items + 1 - l.item-index) l.seat
    × (own l.seat ≡ [])
    × (vec_len l.workers ≡ l.item-index)
    × (vec_capacity l.workers ≡ vec_capacity l.fn.workers)
    × All (λ worker. IsReady l.fn.turn worker.seat) l.workers.items
    × ((weight : ℕ → ℕ) → sum_by (λ worker. weight worker.item) l.workers.items ≡ sum_by weight (take l.item-index l.fn.items))
