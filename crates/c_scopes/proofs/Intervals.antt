-- What the open scopes say of a name at a place is what the intervals say.

use Rattle.std.proofs.Common.{◌≡◌, ◌≢◌, ◌∙◌, ◌≤◌, ℕ, zero, suc, Bool, true, false, sym, ap}
use Rattle.std.proofs.Common.{subst, refl, arith, List, [], ◌∷◌, ◌++◌, inl, inr, append_assoc}
use Rattle.std.proofs.Common.{append-nil}
use Rattle.std.specs.Prelude.{◌⊎◌, ◌↔◌, reverse, map, bytes_eq}
use mathlib.Core.List.{reverse_aux}
use Rattle.std.proofs.lemmas.List.{reverse-append, reverse-reverse, map-append}
use Rattle.std.proofs.lemmas.Slice.Eq.{bytes_eq-Decides}
use Rattle.c_scopes.specs.Scopes.{Declared, OpenScopes, file_scope, entered, declared}
use Rattle.c_scopes.specs.Scopes.{declarations_in, IsFirstOf, IsTypedefName, left}
use Rattle.c_scopes.specs.Events.{Event, Opens, Closes, Declares, Uses, Lasts, IsDeclaredAs}
use Rattle.c_scopes.specs.Events.{IsTypedefAt, after_event, after_events, events_in}
use Rattle.c_scopes.specs.Events.{events_around, events_to}
use Rattle.c_scopes.proofs.Firsts.{first_here, first_behind, first_cases, nothing_first}

-- ---- How many scopes end with events that began before them

abbrev less_one : ℕ → ℕ
less_one zero = zero
less_one (suc n) = n

height : List Event → ℕ
height [] = 0
height (Opens ∷ events) = less_one (height events)
height (Closes ∷ events) = suc (height events)
height (Declares name typedef ∷ events) = height events
height (Uses name typedef ∷ events) = height events

below_one : (n m : ℕ) → n ≤ suc m → less_one n ≤ m
below_one zero m h = omega arith
below_one (suc n) m h = omega arith

above_one : (n m : ℕ) → less_one n ≤ m → n ≤ suc m
above_one zero m h = omega arith
above_one (suc n) m h = omega arith

lasts_height : (inner : ℕ) (events : List Event) → Lasts inner events → height events ≤ inner
unfolding height
lasts_height inner [] lasts = omega arith
lasts_height inner (Opens ∷ events) lasts =
    below_one (height events) inner (lasts_height (suc inner) events lasts)
lasts_height zero (Closes ∷ events) lasts = absurd lasts
lasts_height (suc inner) (Closes ∷ events) lasts =
    let h = lasts_height inner events lasts in omega arith
lasts_height inner (Declares name typedef ∷ events) lasts = lasts_height inner events lasts
lasts_height inner (Uses name typedef ∷ events) lasts = lasts_height inner events lasts

height_lasts : (inner : ℕ) (events : List Event) → height events ≤ inner → Lasts inner events
unfolding height
height_lasts inner [] h = tt
height_lasts inner (Opens ∷ events) h =
    height_lasts (suc inner) events (above_one (height events) inner h)
height_lasts zero (Closes ∷ events) h = absurd (omega arith)
height_lasts (suc inner) (Closes ∷ events) h = height_lasts inner events (omega arith)
height_lasts inner (Declares name typedef ∷ events) h = height_lasts inner events h
height_lasts inner (Uses name typedef ∷ events) h = height_lasts inner events h

-- ---- The same, from the place backwards

-- the events, of which the latest comes first, in front of those behind them
abbrev onto : List Event → List Event → List Event
onto = reverse_aux

-- the declaration holds behind all of the events, of which the latest comes first, and those behind
record Told (back behind : List Event) (name : List ℕ) (typedef : Bool) : Type 0 where
  later : List Event
  earlier : List Event
  stands : back ≡ later ++ Declares name typedef ∷ earlier
  lasts : Lasts 0 (onto later behind)
  last : (after between : List Event) (other : Bool) →
      later ≡ after ++ Declares name other ∷ between → ¬ Lasts 0 (onto after behind)

-- an event that is no declaration of the name which holds
abbrev IsPassed : Event → List Event → List ℕ → Type 0
IsPassed event behind name = (typedef : Bool) → event ≡ Declares name typedef → ¬ Lasts 0 behind

heads : (d e : Event) (ds es : List Event) → d ∷ ds ≡ e ∷ es → d ≡ e
heads d e ds es is = cc

tails : (d e : Event) (ds es : List Event) → d ∷ ds ≡ e ∷ es → ds ≡ es
tails d e ds es is = cc

no_cons : (e : Event) (es : List Event) → [] ≡ e ∷ es → ⊥
no_cons e es is = cc

no_join : (xs : List Event) (e : Event) (es : List Event) → [] ≡ xs ++ e ∷ es → ⊥
no_join [] e es is = no_cons e es is
no_join (x ∷ xs) e es is = no_cons x (xs ++ e ∷ es) is

same_typedef : (name : List ℕ) (t b : Bool) → Declares name t ≡ Declares name b → t ≡ b
same_typedef name t b is = cc

pass : (event : Event) (back behind : List Event) (name : List ℕ) (typedef : Bool) →
    IsPassed event behind name → Told (event ∷ back) behind name typedef →
    Told back (event ∷ behind) name typedef
pass event back behind name typedef passed told = by_later told.later told.stands told.lasts told.last
  where
    by_later : (later : List Event) →
        event ∷ back ≡ later ++ Declares name typedef ∷ told.earlier →
        Lasts 0 (onto later behind) →
        ((after between : List Event) (other : Bool) →
        later ≡ after ++ Declares name other ∷ between → ¬ Lasts 0 (onto after behind)) →
        Told back (event ∷ behind) name typedef
    by_later [] stands lasts last = absurd (passed typedef
        (heads event (Declares name typedef) back told.earlier stands) lasts)
    by_later (first ∷ later) stands lasts last =
        let rest = later ++ Declares name typedef ∷ told.earlier in
        let is : first ≡ event = sym (heads event first back rest stands) in
        record {
          later = later;
          earlier = told.earlier;
          stands = tails event first back rest stands;
          lasts = rw (← is) lasts;
          last = λ after between other splits lasts_too.
              last (first ∷ after) between other (ap (λ es. first ∷ es) splits) (rw is lasts_too);
        }

go_on : (event : Event) (back behind : List Event) (name : List ℕ) (typedef : Bool) →
    IsPassed event behind name → Told back (event ∷ behind) name typedef →
    Told (event ∷ back) behind name typedef
go_on event back behind name typedef passed told = record {
  later = event ∷ told.later;
  earlier = told.earlier;
  stands = ap (λ es. event ∷ es) told.stands;
  lasts = told.lasts;
  last = last;
} where
  last : (after between : List Event) (other : Bool) →
      event ∷ told.later ≡ after ++ Declares name other ∷ between → ¬ Lasts 0 (onto after behind)
  last [] between other splits =
      passed other (heads event (Declares name other) told.later between splits)
  last (first ∷ after) between other splits =
      let rest = after ++ Declares name other ∷ between in
      rw (sym (heads event first told.later rest splits))
      (told.last after between other (tails event first told.later rest splits))

-- a declaration of the name, behind which its scope does not end, decides
decides : (back behind : List Event) (name : List ℕ) (t b : Bool) → Lasts 0 behind →
    Told (Declares name t ∷ back) behind name b → t ≡ b
decides back behind name t b holds told = by_later told.later told.stands told.last
  where
    by_later : (later : List Event) →
        Declares name t ∷ back ≡ later ++ Declares name b ∷ told.earlier →
        ((after between : List Event) (other : Bool) →
        later ≡ after ++ Declares name other ∷ between → ¬ Lasts 0 (onto after behind)) →
        t ≡ b
    by_later [] stands last = same_typedef name t b
        (heads (Declares name t) (Declares name b) back told.earlier stands)
    by_later (first ∷ later) stands last =
        let rest = later ++ Declares name b ∷ told.earlier in
        let is : first ≡ Declares name t = sym (heads (Declares name t) first back rest stands) in
        absurd (last [] later t (ap (λ e. e ∷ later) is) holds)

decided : (back behind : List Event) (name : List ℕ) (b : Bool) → Lasts 0 behind →
    Told (Declares name b ∷ back) behind name b
decided back behind name b holds = record {
  later = [];
  earlier = back;
  stands = refl;
  lasts = holds;
  last = λ after between other splits. absurd (no_join after (Declares name other) between splits);
}

nothing_told : (behind : List Event) (name : List ℕ) (b : Bool) → Told [] behind name b → ⊥
nothing_told behind name b told =
    no_join told.later (Declares name b) told.earlier told.stands

-- ---- The open scopes, from the place backwards

-- the scopes that are open behind the events, of which the latest comes first
abbrev open_behind : OpenScopes → List Event → OpenScopes
open_behind start [] = start
open_behind start (event ∷ back) = after_event (open_behind start back) event

-- so many scopes are left
abbrev left_often : ℕ → OpenScopes → OpenScopes
left_often zero open_scopes = open_scopes
left_often (suc n) open_scopes = left_often n (left open_scopes)

-- what the open scopes say once those are left that end behind the events
abbrev IsSaid : List Event → List Event → List ℕ → Bool → Type 0
IsSaid back behind name typedef = IsFirstOf
    (declarations_in (left_often (height behind) (open_behind file_scope back))) name typedef

said_after_opens : (n : ℕ) (s : OpenScopes) (name : List ℕ) (b : Bool) →
    IsFirstOf (declarations_in (left_often n (entered s))) name b
    ↔ IsFirstOf (declarations_in (left_often (less_one n) s)) name b
said_after_opens zero s name b = (λ h. h, λ h. h)
said_after_opens (suc n) s name b = (λ h. h, λ h. h)

said_after_inner : (n : ℕ) (s : OpenScopes) (x : List ℕ) (t : Bool) (name : List ℕ) (b : Bool) →
    IsFirstOf (declarations_in (left_often (suc n) (declared s x t))) name b
    ↔ IsFirstOf (declarations_in (left_often (suc n) s)) name b
said_after_inner n s x t name b = (λ h. h, λ h. h)

not_lasts : (behind : List Event) (n : ℕ) → height behind ≡ suc n → ¬ Lasts 0 behind
not_lasts behind n is lasts = let h = lasts_height 0 behind lasts in absurd (omega arith)

same_name : (x name : List ℕ) (t : Bool) (typedef : Bool) →
    Declares x t ≡ Declares name typedef → x ≡ name
same_name x name t typedef is = cc

nothing_open : (n : ℕ) (name : List ℕ) (b : Bool) →
    ¬ IsFirstOf (declarations_in (left_often n file_scope)) name b
nothing_open zero name b said = nothing_first name b said
nothing_open (suc n) name b said = nothing_open n name b said

-- one declaration more in the innermost scope, of another name
said_of_others : (s : OpenScopes) (x : List ℕ) (t : Bool) (name : List ℕ) (b : Bool) →
    x ≢ name → IsFirstOf (declarations_in (declared s x t)) name b
    ↔ IsFirstOf (declarations_in s) name b
said_of_others s x t name b apart = (
  λ said. behind (first_cases (record { name = x; typedef = t }) (declarations_in s) name b said),
  λ said. first_behind (record { name = x; typedef = t }) (declarations_in s) name b apart said,
)
  where
    behind : ((x ≡ name) × (t ≡ b)) ⊎ ((x ≢ name) × IsFirstOf (declarations_in s) name b) →
        IsFirstOf (declarations_in s) name b
    behind (inl here) = absurd (apart here.0)
    behind (inr further) = further.1

-- one of the name
said_of_name : (s : OpenScopes) (name : List ℕ) (t b : Bool) →
    IsFirstOf (declarations_in (declared s name t)) name b ↔ (t ≡ b)
said_of_name s name t b = (
  λ said. here (first_cases (record { name = name; typedef = t }) (declarations_in s) name b said),
  λ is. subst (λ (c : Bool). IsFirstOf (declarations_in (declared s name t)) name c) is
      (first_here name t (declarations_in s)),
)
  where
    here : ((name ≡ name) × (t ≡ b)) ⊎ ((name ≢ name) × IsFirstOf (declarations_in s) name b) →
        t ≡ b
    here (inl found) = found.1
    here (inr further) = absurd (further.0 refl)

both_ways : {A B C : Type 0} → A ↔ B → B ↔ C → A ↔ C
both_ways f g = (λ a. g.0 (f.0 a), λ c. f.1 (g.1 c))

passing : (event : Event) (back behind : List Event) (name : List ℕ) (b : Bool) →
    IsPassed event behind name → Told back (event ∷ behind) name b
    ↔ Told (event ∷ back) behind name b
passing event back behind name b passed =
    (go_on event back behind name b passed, pass event back behind name b passed)

said_is_told : (back behind : List Event) (name : List ℕ) (b : Bool) →
    IsSaid back behind name b ↔ Told back behind name b
unfolding height
said_is_told [] behind name b = (
  λ said. absurd (nothing_open (height behind) name b said),
  λ told. absurd (nothing_told behind name b told),
)
said_is_told (Opens ∷ back) behind name b =
    both_ways (said_after_opens (height behind) (open_behind file_scope back) name b)
    (both_ways (said_is_told back (Opens ∷ behind) name b)
    (passing Opens back behind name b (λ t is. cc)))
said_is_told (Closes ∷ back) behind name b =
    both_ways (said_is_told back (Closes ∷ behind) name b)
    (passing Closes back behind name b (λ t is. cc))
said_is_told (Uses x t ∷ back) behind name b =
    both_ways (said_is_told back (Uses x t ∷ behind) name b)
    (passing (Uses x t) back behind name b (λ c is. cc))
said_is_told (Declares x t ∷ back) behind name b =
    at_height (height behind) refl (said_is_told back (Declares x t ∷ behind) name b)
  where
    further : IsPassed (Declares x t) behind name →
        IsSaid back (Declares x t ∷ behind) name b ↔ Told back (Declares x t ∷ behind) name b →
        IsSaid back (Declares x t ∷ behind) name b ↔ Told (Declares x t ∷ back) behind name b
    further passed rest =
        both_ways rest (passing (Declares x t) back behind name b passed)

    at_name : height behind ≡ 0 → (e : Bool) → bytes_eq x name ≡ e →
        IsSaid back (Declares x t ∷ behind) name b ↔ Told back (Declares x t ∷ behind) name b →
        IsSaid (Declares x t ∷ back) behind name b ↔ Told (Declares x t ∷ back) behind name b
    at_name none true test rest =
        let is : x ≡ name = (bytes_eq-Decides x name).0 test in
        let holds = height_lasts 0 behind (omega arith) in
        rw (none, is) (both_ways (said_of_name (open_behind file_scope back) name t b) (
          (λ e. rw e (decided back behind name b holds)),
          (λ told. decides back behind name t b holds told),
        ))
    at_name none false test rest =
        let apart : x ≢ name =
        λ is. let same = (bytes_eq-Decides x name).1 is in cc in
        let step : IsSaid (Declares x t ∷ back) behind name b
        ↔ IsSaid back (Declares x t ∷ behind) name b =
        rw none (said_of_others (open_behind file_scope back) x t name b apart) in
        both_ways step (further (λ c is holds. apart (same_name x name t c is)) rest)

    at_height : (n : ℕ) → height behind ≡ n →
        IsSaid back (Declares x t ∷ behind) name b ↔ Told back (Declares x t ∷ behind) name b →
        IsSaid (Declares x t ∷ back) behind name b ↔ Told (Declares x t ∷ back) behind name b
    at_height zero none rest = at_name none (bytes_eq x name) refl rest
    at_height (suc n) is rest =
        let step : IsSaid (Declares x t ∷ back) behind name b
        ↔ IsSaid back (Declares x t ∷ behind) name b =
        rw is (said_after_inner n (open_behind file_scope back) x t name b) in
        both_ways step (further (λ c e holds. not_lasts behind n is holds) rest)

-- ---- From the beginning on

after_events-append : (start : OpenScopes) (events more : List Event) →
    after_events start (events ++ more) ≡ after_events (after_events start events) more
after_events-append start [] more = refl
after_events-append start (event ∷ events) more =
    after_events-append (after_event start event) events more

open_behind-reverse : (start : OpenScopes) (back : List Event) →
    after_events start (reverse back) ≡ open_behind start back
open_behind-reverse start [] = refl
open_behind-reverse start (event ∷ back) =
    ap (after_events start) (reverse-append (event ∷ []) back)
    ∙ after_events-append start (reverse back) (event ∷ [])
    ∙ ap (λ s. after_event s event) (open_behind-reverse start back)

reverse-split : (before : List Event) (event : Event) (after : List Event) →
    reverse (before ++ event ∷ after) ≡ reverse after ++ event ∷ reverse before
reverse-split before event after =
    reverse-append before (event ∷ after)
    ∙ ap (λ es. es ++ reverse before) (reverse-append (event ∷ []) after)
    ∙ append_assoc (reverse after) (event ∷ []) (reverse before)

-- a split of a list is one of the list from its end
turned : (events before after : List Event) (event : Event) →
    reverse events ≡ before ++ event ∷ after → events ≡ reverse after ++ event ∷ reverse before
turned events before after event splits =
    sym (reverse-reverse events) ∙ ap reverse splits ∙ reverse-split before event after

-- what holds, said of the events in their order
told_is_declared : (before : List Event) (name : List ℕ) (b : Bool) →
    Told (reverse before) [] name b ↔ IsDeclaredAs before name b
told_is_declared before name b = (forwards, backwards)
  where
    forwards : Told (reverse before) [] name b → IsDeclaredAs before name b
    forwards told = record {
      earlier = reverse told.earlier;
      later = reverse told.later;
      stands = turned before told.later told.earlier (Declares name b) told.stands;
      lasts = told.lasts;
      last = λ between after other splits lasts.
          told.last (reverse after) (reverse between) other
          (turned told.later between after (Declares name other) splits)
          (rw (reverse-reverse after) lasts);
    }

    backwards : IsDeclaredAs before name b → Told (reverse before) [] name b
    backwards declares = record {
      later = reverse declares.later;
      earlier = reverse declares.earlier;
      stands = ap reverse declares.stands
          ∙ reverse-split declares.earlier (Declares name b) declares.later;
      lasts = rw (reverse-reverse declares.later) declares.lasts;
      last = λ after between other splits lasts.
          declares.last (reverse between) (reverse after) other
          (turned declares.later after between (Declares name other) splits) lasts;
    }

-- the scopes that are open after the events say what the intervals say
pub said_is_declared : (events : List Event) (name : List ℕ) (b : Bool) →
    IsFirstOf (declarations_in (after_events file_scope events)) name b
    ↔ IsDeclaredAs events name b
unfolding height
said_is_declared events name b =
    let is = sym (open_behind-reverse file_scope (reverse events))
    ∙ ap (after_events file_scope) (reverse-reverse events) in
    both_ways (rw (← is) (said_is_told (reverse events) [] name b)) (told_is_declared events name b)

-- ---- From given scopes on

after_declarations : (start : OpenScopes) (back : List Declared) →
    after_events start (map (λ (d : Declared). Declares d.name d.typedef) (reverse back))
    ≡ record start { innermost = back ++ start.innermost }
after_declarations start [] = refl
after_declarations start (d ∷ back) =
    ap (λ ds. after_events start (map (λ (d : Declared). Declares d.name d.typedef) ds))
    (reverse-append (d ∷ []) back)
    ∙ ap (after_events start) (map-append (λ (d : Declared). Declares d.name d.typedef)
    (reverse back) (d ∷ []))
    ∙ after_events-append start (map (λ (d : Declared). Declares d.name d.typedef) (reverse back))
    (Declares d.name d.typedef ∷ [])
    ∙ ap (λ s. declared s d.name d.typedef) (after_declarations start back)

after_events_around : (scope : List Declared) (around : List (List Declared)) →
    after_events file_scope (events_around scope around)
    ≡ record { innermost = scope; around = around }
after_events_around scope [] =
    after_declarations file_scope scope
    ∙ ap (λ (ds : List Declared). record { innermost = ds; around = [] }) (append-nil scope)
after_events_around scope (outer ∷ around) =
    after_events-append file_scope (events_around outer around) (Opens ∷ events_in scope)
    ∙ ap (λ s. after_events (entered s) (events_in scope)) (after_events_around outer around)
    ∙ after_declarations (entered (record { innermost = outer; around = around })) scope
    ∙ ap (λ (ds : List Declared). record { innermost = ds; around = outer ∷ around })
    (append-nil scope)

-- from given scopes on too
pub said_in_scopes : (open_scopes : OpenScopes) (before : List Event) (name : List ℕ) →
    IsTypedefName (after_events open_scopes before) name
    ↔ IsTypedefAt (events_to open_scopes ++ before) name
said_in_scopes open_scopes before name =
    let is : after_events file_scope (events_to open_scopes ++ before)
    ≡ after_events open_scopes before =
    after_events-append file_scope (events_to open_scopes) before
    ∙ ap (λ s. after_events s before)
    (after_events_around open_scopes.innermost open_scopes.around) in
    rw (← is) (said_is_declared (events_to open_scopes ++ before) name true)
