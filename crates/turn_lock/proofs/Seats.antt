-- A seat after a step is of the same lock.
use Rattle.std.proofs.Common.{◌≡◌, ℕ, List, Option, Some, sym, ap, ◌∙◌}
use Rattle.turn_lock.specs.declared.view.View.{View}
use Rattle.turn_lock.specs.declared.seat.Seat.{Seat}
use Rattle.turn_lock.specs.declared.turn.Turn.{Turn}
use Rattle.turn_lock.specs.Views.{first_in, shares_in}
use Rattle.turn_lock.specs.Steps.{Mine}
use Rattle.turn_lock.specs.Seats.{first_value, IsOf}
use Rattle.turn_lock.proofs.Views.{some_is}

module _ {T N E : Type 0} where
  pub still_of : (t : Turn T N E) (s r : Seat T N E) (v w : View T E) (c d : List (ℕ × Option T)) → IsOf t s
      → s.inner.me ≡ (Some v, c) → r.inner.me ≡ (Some w, d) → r.inner.table_id ≡ s.inner.table_id → w.first ≡ v.first → (v.shares ≡ s.shares → w.shares ≡ r.shares) → IsOf t r
  still_of t s r v w c d i e f tab same sh = record {
    table = tab ∙ i.table;
    first = ap (λ (m : Mine T E). first_in m.0) f ∙ ap Some same ∙ sym (ap (λ (m : Mine T E). first_in m.0) e) ∙ i.first;
    shares = ap (λ (m : Mine T E). shares_in m.0) f ∙ sh (sym (ap (λ (m : Mine T E). shares_in m.0) e) ∙ i.shares);
  }

  -- The view has as many shares as the seat says.
  pub shares_as : (t : Turn T N E) (s : Seat T N E) (v : View T E) (c : List (ℕ × Option T)) → IsOf t s → s.inner.me ≡ (Some v, c) → v.shares ≡ s.shares
  shares_as t s v c i e = sym (ap (λ (m : Mine T E). shares_in m.0) e) ∙ i.shares

  -- The view has the lock's first value.
  pub first_as : (t : Turn T N E) (s : Seat T N E) (v : View T E) (c : List (ℕ × Option T)) → IsOf t s → s.inner.me ≡ (Some v, c) → v.first ≡ first_value t
  first_as t s v c i e = some_is v.first (first_value t) (sym (ap (λ (m : Mine T E). first_in m.0) e) ∙ i.first)
