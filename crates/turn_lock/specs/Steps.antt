-- What each step of the lock changes in the view of the seat that takes it, and tells it (ours).
use Rattle.std.specs.Prelude.{
  ◌≡◌,
  ◌≢◌,
  ℕ,
  ◌+◌,
  ◌-◌,
  ◌%◌,
  ◌^◌,
  ◌<◌,
  List,
  [],
  ◌∷◌,
  ◌++◌,
  Option,
  Some,
  None,
}
use Rattle.atomic_table.specs.Table.{Me, Step}
use Rattle.turn_lock.specs.declared.view.View.{View}
use Rattle.turn_lock.specs.Entries.{added, longer, shorter, Extends}

-- A seat: its view, and the slots that it has taken.
abbrev pub Mine : Type 0 → Type 0 → Type 0
Mine T E = Me (Option T) (Option (View T E))

module _ {T E : Type 0} where
  -- The view of the first seat: it has all shares, and has seen nothing.
  abbrev pub opening_view : T → ℕ → View T E
  opening_view first all = record {
    first = first;
    seen = [];
    shorter = [];
    own = [];
    shares = all;
    offer = 0;
    ticket = None;
    held = None;
  }

  -- Draw: the seat gains the ticket that it found.
  abbrev pub Draws : Step (Option T) → Mine T E → ℕ → Mine T E → Type 0
  Draws step before found after = (v : View T E) → before.0 ≡ Some v →
      (ticket : ℕ) × (found ≡ ticket % 2 ^ 64)
      × (after ≡ (Some (record v { ticket = Some ticket }), before.1))

  -- Offer: the seat will give away so many shares. It tells that what stands beside the seen
  -- history is a beginning of it, and that the shares fit 32 bits.
  abbrev pub Offers : Step (Option T) → Mine T E → ℕ → Mine T E → Type 0
  Offers step before found after = (v : View T E) → before.0 ≡ Some v →
      (after ≡ (Some (record v { offer = step.first }), before.1))
      × Extends v.seen v.shorter × (v.shares < 2 ^ 32)

  -- Split: the offered shares go.
  abbrev pub left_of : Option (View T E) → Option (View T E)
  left_of None = None
  left_of (Some v) = Some (record v { shares = v.shares - v.offer })

  -- Split: the new seat has the offered shares and has seen as much; it added nothing.
  abbrev pub right_of : Option (View T E) → Option (View T E)
  right_of None = None
  right_of (Some v) =
      Some (record v { shares = v.offer; own = []; ticket = None; held = None })

  -- Join: both shares, both own entries and the longer history, with the shorter one beside it.
  abbrev pub joined : View T E → View T E → View T E
  joined v w = record v {
    shares = v.shares + w.shares;
    own = v.own ++ w.own;
    seen = longer v.seen w.seen;
    shorter = shorter v.seen w.seen;
  }

  abbrev pub both_of : Option (View T E) → Option (View T E) → Option (View T E)
  both_of None other = other
  both_of (Some v) None = Some v
  both_of (Some v) (Some w) = Some (joined v w)

module _ {T N E : Type 0} (name : T → N) (history : T → List E)
    (may_become : T → T → Type 0) where
  -- The value was taken out of the slot, and its history was seen.
  pub record Takes (v : View T E) (before after : Mine T E) : Type 0 where
    pub value : T
    pub seat : after ≡ (
      Some (record v { seen = history value; held = Some value }),
      (0, Some value) ∷ before.1,
    )
    pub named : name value ≡ name v.first
    pub grown : Extends (history value) v.seen
    pub became : may_become v.first value

  -- Look: where the seat's ticket is served, it takes the value; else nothing changes.
  abbrev pub Looks : Step (Option T) → Mine T E → ℕ → Mine T E → Type 0
  Looks step before found after =
      (v : View T E) (ticket : ℕ) → before.0 ≡ Some v → v.ticket ≡ Some ticket →
      (found ≡ ticket % 2 ^ 64 → Takes v before after)
      × (found ≢ ticket % 2 ^ 64 → after ≡ before)

module _ {T E : Type 0} (history : T → List E) where
  -- The view after the value was given back: its history was seen, and what was added is own.
  abbrev pub gave : View T E → T → View T E
  gave v value = record v {
    seen = history value;
    own = v.own ++ added v.seen (history value);
    ticket = None;
    held = None;
  }

  -- Pass on: the value is put back into the slot, and the next ticket is served.
  abbrev pub PassesOn : Step (Option T) → Mine T E → ℕ → Mine T E → Type 0
  PassesOn step before found after =
      (v : View T E) (value : T) → before.0 ≡ Some v → before.1 ≡ (0, Some value) ∷ [] →
      after ≡ (Some (gave v value), [])
