-- Workers that write numbers into one list under a lock, as the client in the tests (ours).
use Rattle.std.specs.Prelude.{ℕ, ◌≡◌, Bool, IsTrue, List, [], sum_by}
use Rattle.turn_lock.specs.declared.seat.Seat.{Seat}
use Rattle.turn_lock.specs.declared.turn.Turn.{Turn}
use Rattle.turn_lock.specs.Seats.{own, IsSeated}

-- The list has each item as often as it was given, whatever the order.
abbrev pub HasEach : List ℕ → List ℕ → Type 0
HasEach items written = (weight : ℕ → ℕ) → sum_by weight written ≡ sum_by weight items

module _ {T N : Type 0} where
  -- What the seat added weighs so much, however numbers are weighed.
  abbrev pub Adds : ((ℕ → ℕ) → ℕ) → Seat T N ℕ → Type 0
  Adds total seat =
      (weight : ℕ → ℕ) → sum_by (λ own. weight own.entry) (own seat) ≡ total weight

  -- The seat has one share, and added nothing.
  pub record IsReady (turn : Turn T N ℕ) (seat : Seat T N ℕ) : Type 0 where
    pub seated : IsSeated turn 1 seat
    pub none : own seat ≡ []

  -- The seat has one share, and added this item, if it was written.
  pub record IsDone (turn : Turn T N ℕ) (item : ℕ) (written : Bool) (seat : Seat T N ℕ) :
      Type 0 where
    pub seated : IsSeated turn 1 seat
    pub wrote : IsTrue written → Adds (λ weight. weight item) seat
