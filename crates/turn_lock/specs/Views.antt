-- What the rule of the lock counts in the view of a seat (ours). A seat that was joined to another
-- has the view None.
use Rattle.std.specs.Prelude.{ℕ, List, [], sum_by, Option, Some, None}
use Rattle.turn_lock.specs.declared.view.Positioned.{Positioned}
use Rattle.turn_lock.specs.declared.view.View.{View}

-- A ticket counts as one.
abbrev pub one_if_some : Option ℕ → ℕ
one_if_some None = 0
one_if_some (Some ticket) = 1

module _ {T E : Type 0} where
  abbrev pub first_in : Option (View T E) → Option T
  first_in None = None
  first_in (Some view) = Some view.first

  abbrev pub seen_in : Option (View T E) → List E
  seen_in None = []
  seen_in (Some view) = view.seen

  abbrev pub own_in : Option (View T E) → List (Positioned E)
  own_in None = []
  own_in (Some view) = view.own

  abbrev pub shares_in : Option (View T E) → ℕ
  shares_in None = 0
  shares_in (Some view) = view.shares

  abbrev pub tickets_in : Option (View T E) → ℕ
  tickets_in None = 0
  tickets_in (Some view) = one_if_some view.ticket

  -- What the own entries of a seat weigh.
  abbrev pub own_weight : (Positioned E → ℕ) → Option (View T E) → ℕ
  own_weight weight None = 0
  own_weight weight (Some view) = sum_by weight view.own
