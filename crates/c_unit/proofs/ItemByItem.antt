-- The items of a file, one after the other, and its end.

use Rattle.std.proofs.Common.{◌≡◌, ℕ, zero, suc, ◌<◌, Bool, true, false, if◌then◌else◌, List, [], ◌∷◌, ◌++◌, length, Result, Ok, Err, refl, sym, ap, ◌∙◌, subst, arith}
use Rattle.c_tree.specs.declared.tree.Item.{Item}
use Rattle.c_tree.specs.declared.tree.Unit.{Unit}
use Rattle.c_scopes.specs.Scopes.{OpenScopes}
use Rattle.reading.specs.Readers.{Input, Outcome, and_then, is_ahead, go_on, pure, offends}
use Rattle.c_reading.specs.Kept.{KeptToken}
use Rattle.c_reading.specs.Cursors.{Around}
use Rattle.c_reading.specs.declared.stop.Stop.{Stop}
use Rattle.c_reading.specs.Reads.{Halts}
use Rattle.c_syntax.specs.Scoping.{PartReader, terminal_of}
use Rattle.c_stmt.specs.Below.{BelowReaders}
use Rattle.c_unit.specs.declared.forms.External.{External}
use Rattle.c_unit.specs.declared.forms.Head.{Head}
use Rattle.c_unit.specs.declared.forms.Items.{Items}
use Rattle.c_unit.specs.Gives.{Takes, TakesAll}
use Rattle.c_unit.specs.UnitSets.{begins_external}
use Rattle.c_unit.specs.UnitReaders.{external, more_items, all_items, at_end, unit, file}
use Rattle.c_unit.proofs.Replaying.{Place, halts_then}

module _ (below : BelowReaders) (head : ℕ → PartReader Head) (room : ℕ) (is_definition : ℕ → Bool) where
  abbrev pub Listed : Type 0
  Listed = Outcome KeptToken OpenScopes Around (List Item)

  abbrev pub items_on : ℕ → List Item → PartReader (List Item)
  items_on = go_on terminal_of begins_external (more_items below head room is_definition)

  module _ (turns : ℕ) (items : List Item) (at : Place) {o : Listed} (left : o ≡ items_on (suc turns) items at) where
    abbrev one : Listed
    one = if is_ahead terminal_of begins_external at then and_then (more_items below head room is_definition items at) (items_on turns) else Ok (items, at)

    opened : o ≡ one
    unfolding go_on
    opened = left

    -- None begins there.
    pub no_item : is_ahead terminal_of begins_external at ≡ false → o ≡ Ok (items, at)
    no_item e = opened ∙ ap (λ (b : Bool). let r : Listed = if b then and_then (more_items below head room is_definition items at) (items_on turns) else Ok (items, at) in r) e

    begun : is_ahead terminal_of begins_external at ≡ true → o ≡ and_then (more_items below head room is_definition items at) (items_on turns)
    begun e = opened ∙ ap (λ (b : Bool). let r : Listed = if b then and_then (more_items below head room is_definition items at) (items_on turns) else Ok (items, at) in r) e

    -- One is read.
    pub next_item : (item : Item) (next : Place) → is_ahead terminal_of begins_external at ≡ true → external below head room is_definition at ≡ Ok (item, next) → o ≡ items_on turns (items ++ item ∷ []) next
    unfolding more_items
    next_item item next e f =
        begun e ∙ ap (λ (z : Outcome KeptToken OpenScopes Around Item). and_then (and_then z (λ i. pure (items ++ i ∷ []))) (items_on turns)) f

    -- One stops.
    pub item_stops : (s : Stop) → is_ahead terminal_of begins_external at ≡ true → Halts (external below head room is_definition at) s → Halts o s
    unfolding more_items
    item_stops s e h =
        subst (λ (z : Listed). Halts z s) (sym (begun e))
        (halts_then (more_items below head room is_definition items at) (items_on turns) s
        (halts_then (external below head room is_definition at) (λ i. pure (items ++ i ∷ [])) s h))

    pub taken_stops : (r : Result External Stop) (s : Stop) → is_ahead terminal_of begins_external at ≡ true → Takes (external below head room is_definition at) r → r ≡ Err s → Halts o s
    taken_stops r s e t was = item_stops s e (subst (λ (z : Result External Stop). Takes (external below head room is_definition at) z) was t)

  pub no_turn_is_left : (items : List Item) (at : Place) → items_on 0 items at ≡ Ok (items, at)
  unfolding go_on
  no_turn_is_left items at = refl

  -- ---- The end

  abbrev as_unit : List Item → Unit
  as_unit items = record { items = items }

  module _ (begin : Place) where
    file_is : file below head room is_definition begin
        ≡ and_then (and_then (all_items below head room is_definition begin) (λ items. pure (as_unit items))) (λ all rest. at_end all rest.tokens rest)
    unfolding file unit
    file_is = refl

    abbrev at_tokens : (all : Unit) (at : Place) → List KeptToken → Outcome KeptToken OpenScopes Around Unit
    at_tokens all at tokens = at_end all tokens at

    ended : (all : Unit) (at : Place) (tokens : List KeptToken) → length tokens ≡ 0 → at_tokens all at tokens ≡ Ok (all, at)
    ended all at [] e = refl
    ended all at (t ∷ tokens) e = absurd (omega (arith, e))

    not_ended : (all : Unit) (at : Place) (tokens : List KeptToken) → 0 < length tokens → at_tokens all at tokens ≡ Err (offends at)
    not_ended all at [] h = absurd (omega (arith, h))
    not_ended all at (t ∷ tokens) h = refl

    behind_items : (items : List Item) (at : Place) → all_items below head room is_definition begin ≡ Ok (items, at) → file below head room is_definition begin ≡ at_end (as_unit items) at.tokens at
    behind_items items at e =
        file_is ∙ ap (λ (z : Listed). and_then (and_then z (λ items. pure (as_unit items))) (λ all rest. at_end all rest.tokens rest)) e

    pub file_ends : (items : List Item) (at : Place) → all_items below head room is_definition begin ≡ Ok (items, at) → length at.tokens ≡ 0 →
        file below head room is_definition begin ≡ Ok (as_unit items, at)
    file_ends items at e h = behind_items items at e ∙ ended (as_unit items) at at.tokens h

    pub file_goes_on : (items : List Item) (at : Place) → all_items below head room is_definition begin ≡ Ok (items, at) → 0 < length at.tokens →
        file below head room is_definition begin ≡ Err (offends at)
    file_goes_on items at e h = behind_items items at e ∙ not_ended (as_unit items) at at.tokens h

    pub file_stops : (s : Stop) → Halts (all_items below head room is_definition begin) s → Halts (file below head room is_definition begin) s
    file_stops s h =
        subst (λ (z : Outcome KeptToken OpenScopes Around Unit). Halts z s) (sym file_is)
        (halts_then (and_then (all_items below head room is_definition begin) (λ items. pure (as_unit items))) (λ all rest. at_end all rest.tokens rest) s
        (halts_then (all_items below head room is_definition begin) (λ items. pure (as_unit items)) s h))

    pub items_stop : (r : Result Items Stop) (s : Stop) → TakesAll (all_items below head room is_definition begin) r → r ≡ Err s → Halts (file below head room is_definition begin) s
    items_stop r s t was = file_stops s (subst (λ (z : Result Items Stop). TakesAll (all_items below head room is_definition begin) z) was t)
