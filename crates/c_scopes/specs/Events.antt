-- Names at their places (C11 6.2.1, 6.7.8): what is met on the way through a source, and where a
-- declaration holds.

use Rattle.std.specs.Prelude.{ℕ, zero, suc, ◌≡◌, Bool, true, false, List, [], ◌∷◌, ◌++◌, map}
use Rattle.std.specs.Prelude.{reverse}
use Rattle.c_scopes.specs.Scopes.{Declared, OpenScopes, entered, declared, left}

-- What is met.
pub data Event : Type 0 where
  -- A scope begins, or the innermost one ends.
  Opens : Event
  Closes : Event
  -- A name is declared, as a typedef name or as another one.
  Declares : List ℕ → Bool → Event
  -- A name stands where it is to be a typedef name, or where it is to be none.
  Uses : List ℕ → Bool → Event

-- ---- Intervals

-- The scope in which the first of the events stands does not end with any of them. So many scopes
-- have begun in it.
abbrev pub Lasts : ℕ → List Event → Type 0
Lasts inner [] = Prim.Unit {0}
Lasts inner (Opens ∷ events) = Lasts (suc inner) events
Lasts zero (Closes ∷ events) = ⊥
Lasts (suc inner) (Closes ∷ events) = Lasts inner events
Lasts inner (Declares name typedef ∷ events) = Lasts inner events
Lasts inner (Uses name typedef ∷ events) = Lasts inner events

-- The interval of a declaration of the name holds the place behind these events, and of all such
-- declarations this one begins last (p4). An interval begins after its declaration and ends with
-- the scope in which it stands (p4, p7).
pub record IsDeclaredAs (before : List Event) (name : List ℕ) (typedef : Bool) : Type 0 where
  pub earlier : List Event
  pub later : List Event
  pub stands : before ≡ earlier ++ Declares name typedef ∷ later
  pub lasts : Lasts 0 later
  pub last : (between after : List Event) (other : Bool) →
      later ≡ between ++ Declares name other ∷ after → ¬ Lasts 0 after

-- The name is a typedef name at the place behind these events.
abbrev pub IsTypedefAt : List Event → List ℕ → Type 0
IsTypedefAt before name = IsDeclaredAs before name true

-- A use behind these events is what it is to be.
abbrev pub IsRight : List Event → Event → Type 0
IsRight before Opens = Prim.Unit {0}
IsRight before Closes = Prim.Unit {0}
IsRight before (Declares name typedef) = Prim.Unit {0}
IsRight before (Uses name true) = IsTypedefAt before name
IsRight before (Uses name false) = ¬ IsTypedefAt before name

-- Each use among the events is right where it stands. The first events are given.
abbrev pub AreRight : List Event → List Event → Type 0
AreRight given events = (before after : List Event) (event : Event) →
    events ≡ before ++ event ∷ after → IsRight (given ++ before) event

-- ---- Open scopes

-- The scopes that are open after the event.
abbrev pub after_event : OpenScopes → Event → OpenScopes
after_event open_scopes Opens = entered open_scopes
after_event open_scopes Closes = left open_scopes
after_event open_scopes (Declares name typedef) = declared open_scopes name typedef
after_event open_scopes (Uses name typedef) = open_scopes

-- The scopes that are open after the events.
abbrev pub after_events : OpenScopes → List Event → OpenScopes
after_events open_scopes [] = open_scopes
after_events open_scopes (event ∷ events) = after_events (after_event open_scopes event) events

-- The events that lead to the open scopes.
abbrev pub events_in : List Declared → List Event
events_in scope = map (λ (d : Declared). Declares d.name d.typedef) (reverse scope)

abbrev pub events_around : List Declared → List (List Declared) → List Event
events_around scope [] = events_in scope
events_around scope (outer ∷ around) = events_around outer around ++ Opens ∷ events_in scope

abbrev pub events_to : OpenScopes → List Event
events_to open_scopes = events_around open_scopes.innermost open_scopes.around
