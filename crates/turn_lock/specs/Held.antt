-- A value that was taken out of a lock, as contracts see it (ours).
use Rattle.std.specs.Borrow.{Lends, MutBor, Fml}
use denote.RattleType.{RattleType}
use Rattle.turn_lock.specs.declared.held.Held.{Held}
use Rattle.turn_lock.specs.contracts.held.Held.{the_row}

-- The value as it stands.
abbrev pub held_value : {T : Type 0} → Held T → T
held_value held = held.value

-- The value as it was when it was taken.
abbrev pub taken_value : {T : Type 0} → Held T → T
taken_value held = held.taken.value

-- The held value ends as the last value behind the borrow.
abbrev pub LendsValue : (R : RattleType) → MutBor (Held R.Denot) → MutBor R.Denot → Fml
LendsValue R held value = Lends (the_row R) R held value (λ last. record held.now { value = last })
