-- A seat that waits for its turn.
use Rattle.std.proofs.Common.{◌≡◌, ◌%◌, ◌^◌, ℕ, [], Some, None}
use Rattle.turn_lock.specs.declared.view.View.{View}
use Rattle.turn_lock.specs.declared.seat.Seat.{Seat}

-- The seat is as it was, but for the ticket that it drew.
pub record IsWaiting {T N E : Type 0} (found : ℕ) (old seat : Seat T N E) : Type 0 where
  pub view : View T E
  pub ticket : ℕ
  pub found_is : found ≡ ticket % 2 ^ 64
  pub was : old.inner.me ≡ (Some view, [])
  pub no_value : view.held ≡ None
  pub is : seat.inner.me ≡ (Some (record view { ticket = Some ticket }), [])
  pub table : seat.inner.table_id ≡ old.inner.table_id
  pub shares : seat.shares ≡ old.shares
