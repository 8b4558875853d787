-- Names that are met rightly in the open scopes are right by the intervals of their declarations,
-- and the other way round.

use Rattle.std.proofs.Common.{◌≡◌, ℕ, Bool, true, false, List, [], ◌∷◌, ◌++◌, refl, sym, ap, ◌∙◌, subst, append_assoc, append-nil}
use Rattle.c_scopes.specs.Scopes.{OpenScopes}
use Rattle.c_scopes.specs.Events.{Event, Opens, Closes, Declares, Uses, IsTypedefAt, IsRight, AreRight, after_event, after_events, events_to}
use Rattle.c_scopes.proofs.Intervals.{said_in_scopes}
use Rattle.reading.proofs.Sets.{never}
use Rattle.c_syntax.specs.Scoping.{is_typedef_name}
use Rattle.c_syntax.proofs.Typedefs.{is_typedef_name_says}
use Rattle.expression_trees.specs.Saying.{IsRightIn, AreMet}

-- The scopes behind what is met are those after it.
pub met_end : (scopes end : OpenScopes) (events : List Event) → AreMet scopes events end → end ≡ after_events scopes events
met_end scopes end [] h = h
met_end scopes end (event ∷ events) h = met_end (after_event scopes event) end events h.1

right_use : (scopes : OpenScopes) (before : List Event) (name : List ℕ) (typedef : Bool) → is_typedef_name (after_events scopes before) name ≡ typedef → IsRight (events_to scopes ++ before) (Uses name typedef)
right_use scopes before name true h = (said_in_scopes scopes before name).0 ((is_typedef_name_says (after_events scopes before) name).0 h)
right_use scopes before name false h = λ k. never (sym h ∙ (is_typedef_name_says (after_events scopes before) name).1 ((said_in_scopes scopes before name).1 k))

right_event : (scopes : OpenScopes) (before : List Event) (event : Event) → IsRightIn (after_events scopes before) event → IsRight (events_to scopes ++ before) event
right_event scopes before Opens h = tt
right_event scopes before Closes h = tt
right_event scopes before (Declares name typedef) h = tt
right_event scopes before (Uses name typedef) h = right_use scopes before name typedef h

right_at : (scopes end : OpenScopes) (events before after : List Event) (event : Event) → AreMet scopes events end → events ≡ before ++ event ∷ after → IsRightIn (after_events scopes before) event
right_at scopes end [] [] after event h e = absurd (cc)
right_at scopes end [] (one ∷ before) after event h e = absurd (cc)
right_at scopes end (one ∷ events) [] after event h e = subst (IsRightIn scopes) (let f : one ≡ event = cc in f) h.0
right_at scopes end (one ∷ events) (other ∷ before) after event h e =
    let same : one ≡ other = cc in
    subst (λ x. IsRightIn (after_events (after_event scopes x) before) event) same (right_at (after_event scopes one) end events before after event h.1 (cc))

pub are_right : (scopes end : OpenScopes) (events : List Event) → AreMet scopes events end → AreRight (events_to scopes) events
are_right scopes end events h = λ before after event e. right_event scopes before event (right_at scopes end events before after event h e)

-- ---- And back

use_right : (scopes : OpenScopes) (before : List Event) (name : List ℕ) (typedef b : Bool) → is_typedef_name (after_events scopes before) name ≡ b → IsRight (events_to scopes ++ before) (Uses name typedef) → b ≡ typedef
use_right scopes before name true true e h = refl
use_right scopes before name false false e h = refl
use_right scopes before name true false e h = sym e ∙ (is_typedef_name_says (after_events scopes before) name).1 ((said_in_scopes scopes before name).1 h)
use_right scopes before name false true e h = absurd (h ((said_in_scopes scopes before name).0 ((is_typedef_name_says (after_events scopes before) name).0 e)))

event_right : (scopes : OpenScopes) (before : List Event) (event : Event) → IsRight (events_to scopes ++ before) event → IsRightIn (after_events scopes before) event
event_right scopes before Opens h = tt
event_right scopes before Closes h = tt
event_right scopes before (Declares name typedef) h = tt
event_right scopes before (Uses name typedef) h = use_right scopes before name typedef (is_typedef_name (after_events scopes before) name) refl h

after_snoc : (scopes : OpenScopes) (before : List Event) (event : Event) → after_events scopes (before ++ event ∷ []) ≡ after_event (after_events scopes before) event
after_snoc scopes [] event = refl
after_snoc scopes (one ∷ before) event = after_snoc (after_event scopes one) before event

met_from : (scopes : OpenScopes) (before events : List Event) → ((b after : List Event) (event : Event) → before ++ events ≡ b ++ event ∷ after → IsRight (events_to scopes ++ b) event) →
    AreMet (after_events scopes before) events (after_events scopes (before ++ events))
met_from scopes before [] h = ap (after_events scopes) (append-nil before)
met_from scopes before (event ∷ events) h =
    let more : (before ++ event ∷ []) ++ events ≡ before ++ event ∷ events = append_assoc before (event ∷ []) events in
    let rest = met_from scopes (before ++ event ∷ []) events (λ b after other e. h b after other (sym more ∙ e)) in (
      event_right scopes before event (h before events event refl),
      subst (λ s. AreMet s events (after_events scopes (before ++ event ∷ events))) (after_snoc scopes before event)
          (subst (λ (es : List Event). AreMet (after_events scopes (before ++ event ∷ [])) events (after_events scopes es)) more rest),
    )

pub are_met : (scopes : OpenScopes) (events : List Event) → AreRight (events_to scopes) events → AreMet scopes events (after_events scopes events)
are_met scopes events h = met_from scopes [] events h
