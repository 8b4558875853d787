-- What a seat of a lock is, as contracts see it (ours).
use Rattle.std.specs.Prelude.{◌≡◌, ℕ, List, [], ◌∷◌, Some, None}
use Rattle.turn_lock.specs.declared.view.Positioned.{Positioned}
use Rattle.turn_lock.specs.declared.view.View.{View}
use Rattle.turn_lock.specs.declared.seat.Seat.{Seat}
use Rattle.turn_lock.specs.declared.turn.Turn.{Turn}
use Rattle.turn_lock.specs.Views.{first_in, own_in, seen_in, shares_in}

module _ {T N E : Type 0} where
  -- The value that the lock was made with.
  abbrev pub first_value : Turn T N E → T
  first_value turn = turn.table.shared.key.value.value

  -- How many shares the lock has.
  abbrev pub all_shares : Turn T N E → ℕ
  all_shares turn = turn.table.shared.key.shares

  -- The history that the seat has seen.
  abbrev pub seen : Seat T N E → List E
  seen seat = seen_in seat.inner.me.0

  -- The entries that the seat added, each with its position in the history.
  abbrev pub own : Seat T N E → List (Positioned E)
  own seat = own_in seat.inner.me.0

  -- How many of the lock's shares the seat has.
  abbrev pub shares_of : Seat T N E → ℕ
  shares_of seat = seat.shares

  -- The seat is of this lock, whose first value it knows, and it has the shares that it counts.
  pub record IsOf (turn : Turn T N E) (seat : Seat T N E) : Type 0 where
    pub table : seat.inner.table_id ≡ turn.table.shared.table_id
    pub first : first_in seat.inner.me.0 ≡ Some (first_value turn)
    pub shares : shares_in seat.inner.me.0 ≡ seat.shares

  -- The seat holds nothing and waits for nothing.
  pub record IsFree (seat : Seat T N E) : Type 0 where
    pub view : View T E
    pub is : seat.inner.me ≡ (Some view, [])
    pub no_ticket : view.ticket ≡ None
    pub no_value : view.held ≡ None

  -- The seat took this value, which had the history that the seat has seen, and has it still.
  pub record HasTaken (history : T → List E) (seat : Seat T N E) (value : T) : Type 0 where
    pub view : View T E
    pub is : seat.inner.me ≡ (Some view, (0, None) ∷ [])
    pub ticket : (ticket : ℕ) × (view.ticket ≡ Some ticket)
    pub held : view.held ≡ Some value
    pub seen : view.seen ≡ history value

  -- The seat is of this lock and free, and has so many shares.
  pub record IsSeated (turn : Turn T N E) (shares : ℕ) (seat : Seat T N E) : Type 0 where
    pub turn_is : IsOf turn seat
    pub free : IsFree seat
    pub shares_are : shares_of seat ≡ shares
