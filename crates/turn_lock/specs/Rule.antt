-- The rule of the lock (ours): what holds of the two words, the slot and the views of all seats
-- between any two steps. Word 0 is how many tickets were drawn and word 1 the ticket that is
-- served, both modulo 2 ^ 64; the slot has the value.
use Rattle.std.specs.Prelude.{
  ◌≡◌,
  ℕ,
  ◌+◌,
  ◌%◌,
  ◌^◌,
  ◌<◌,
  ◌≤◌,
  List,
  [],
  ◌∷◌,
  length,
  sum_by,
  Option,
  Some,
  None,
}
use mathlib.Core.Option.{some, Option as Slot}
use lib.ListN.{get_elem?}
use Rattle.atomic_table.specs.Table.{State}
use Rattle.turn_lock.specs.declared.view.Positioned.{Positioned}
use Rattle.turn_lock.specs.declared.view.View.{View}
use Rattle.turn_lock.specs.Entries.{positioned, AreAt, Extends}
use Rattle.turn_lock.specs.Views.{own_weight, shares_in, tickets_in}

module _ {T E : Type 0} where
  -- No seat holds the value.
  abbrev pub NoneHolds : List (Option (View T E)) → Type 0
  NoneHolds views = (seat : ℕ) (view : View T E) →
      get_elem? views seat ≡ some (Some view) → view.held ≡ None

  -- Two seats do not have one ticket.
  abbrev pub AreAlone : List (Option (View T E)) → Type 0
  AreAlone views = (one other ticket : ℕ) (view its : View T E) →
      get_elem? views one ≡ some (Some view) → get_elem? views other ≡ some (Some its) →
      view.ticket ≡ Some ticket → its.ticket ≡ Some ticket → one ≡ other

module _ {T N E : Type 0} (name : T → N) (history : T → List E)
    (may_become : T → T → Type 0) (first : T) where
  -- What the rule says of one view, where the value at home has this history.
  pub record Fits (log : List E) (served drawn : ℕ) (view : View T E) : Type 0 where
    pub first_is : view.first ≡ first
    pub seen : Extends log view.seen
    pub shorter : Extends view.seen view.shorter
    pub some : 1 ≤ view.shares
    pub own : AreAt view.seen view.own
    pub ticket : (ticket : ℕ) → view.ticket ≡ Some ticket → (served ≤ ticket) × (ticket < drawn)
    pub turn : (value : T) → view.held ≡ Some value →
        (view.ticket ≡ Some served) × (view.seen ≡ log) × may_become first value

  -- The slot has the value, of the lock's name and with this history.
  pub record IsHome (homes : List (Slot (Option T))) (log : List E) : Type 0 where
    pub value : T
    pub at : get_elem? homes 0 ≡ some (some (Some value))
    pub named : name value ≡ name first
    pub is : history value ≡ log
    pub became : may_become first value

  -- The rule, of a lock with this first value and so many shares.
  pub record IsInTurn (all : ℕ) (state : State (Option T) (Option (View T E))) : Type 0 where
    pub log : List E
    pub served : ℕ
    pub drawn : ℕ
    pub words : state.words ≡ drawn % 2 ^ 64 ∷ served % 2 ^ 64 ∷ []
    pub slots : length state.homes ≡ 1
    pub out : drawn ≡ served + sum_by tickets_in state.views
    pub shares : sum_by shares_in state.views ≡ all
    pub few : all < 2 ^ 32
    pub whole : (weight : Positioned E → ℕ) →
        sum_by (own_weight weight) state.views ≡ sum_by weight (positioned log)
    pub fits : (seat : ℕ) (view : View T E) →
        get_elem? state.views seat ≡ some (Some view) → Fits log served drawn view
    pub alone : AreAlone state.views
    pub home : NoneHolds state.views → IsHome state.homes log
