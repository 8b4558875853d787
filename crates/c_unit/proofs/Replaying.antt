-- A file that is read anew, and the tokens that are passed.

use Rattle.std.proofs.Common.{◌≡◌, ℕ, zero, suc, ◌+◌, ◌<◌, ◌≤◌, length, max, nat_lt, Bool, true, false, if◌then◌else◌, List, [], ◌∷◌, ◌++◌, drop, get_or, Option, Some, None, Result, Ok, Err, refl, sym, ap, ◌∙◌, subst, arith}
use Rattle.std.specs.List.{slice_get}
use Rattle.std.proofs.lemmas.List.{drop_more}
use Rattle.std.proofs.lemmas.Bool.Decides.{nat_tests}
use Rattle.c_tree.specs.declared.tree.Item.{Item}
use Rattle.c_scopes.specs.Scopes.{OpenScopes}
use Rattle.reading.specs.Readers.{Input, Outcome, and_then, offends, too_deep}
use Rattle.c_reading.specs.Kept.{KeptToken}
use Rattle.c_reading.specs.Cursors.{Around, number_ahead}
use Rattle.c_reading.specs.declared.stop.Stop.{Stop}
use Rattle.c_reading.specs.declared.stop.Stop.TheVariants as stop
use Rattle.c_reading.specs.Reads.{Halts, Reads}
use Rattle.c_syntax.specs.Scoping.{PartReader}
use Rattle.c_stmt.specs.Below.{BelowReaders}
use Rattle.c_unit.specs.declared.forms.Head.{Head}
use Rattle.c_unit.specs.Later.{further}
use Rattle.c_unit.specs.UnitReaders.{picked}
use Rattle.c_unit.specs.Replays.{replays}

-- What stands at a place, and what is behind it.
pub drop_some : {A : Type 0} (xs : List A) (n : ℕ) (x : A) → slice_get xs n ≡ Some x → drop n xs ≡ x ∷ drop (n + 1) xs
drop_some [] n x e = absurd (cc)
drop_some (y ∷ xs) zero x e = ap (λ v. v ∷ xs) (let f : y ≡ x = cc in f)
drop_some (y ∷ xs) (suc n) x e = let next : suc (n + 1) ≡ suc n + 1 = omega arith in drop_some xs n x e ∙ ap (λ m. x ∷ drop m (y ∷ xs)) next

pub drop_none : {A : Type 0} (xs : List A) (n : ℕ) → slice_get xs n ≡ None → drop n xs ≡ []
drop_none [] zero e = refl
drop_none [] (suc n) e = refl
drop_none (y ∷ xs) zero e = absurd (cc)
drop_none (y ∷ xs) (suc n) e = drop_none xs n e

pub drop_past : {A : Type 0} (xs : List A) (n : ℕ) → length xs ≤ n → drop n xs ≡ []
drop_past [] zero h = refl
drop_past [] (suc n) h = refl
drop_past (y ∷ xs) zero h = absurd (omega arith)
drop_past (y ∷ xs) (suc n) h = drop_past xs n (omega arith)

abbrev pub Place : Type 0
Place = Input KeptToken OpenScopes Around

abbrev place_in : {A : Type 0} → Place → Outcome KeptToken OpenScopes Around A → Place
place_in other (Ok end) = end.1
place_in other (Err halt) = other

-- One more is read behind those that were.
pub one_more : (below : BelowReaders) (head : ℕ → PartReader Head) (room : ℕ) (before : List Bool) (definition : Bool) (begin at next : Place) (item : Item) →
    replays below head room before begin ≡ Ok (tt, at) → picked below head room definition at ≡ Ok (item, next) →
    replays below head room (before ++ definition ∷ []) begin ≡ Ok (tt, next)
unfolding replays
one_more below head room [] definition begin at next item e f =
    let same : begin ≡ at = ap (place_in {A = Prim.Unit {0}} begin) e in
    ap (λ (i : Place). and_then (picked below head room definition i) (λ next. replays below head room [])) same
    ∙ ap (λ (o : Outcome KeptToken OpenScopes Around Item). and_then o (λ next. replays below head room [])) f
one_more below head room (first ∷ before) definition begin at next item e f =
    behind (λ (i : Place) g. one_more below head room before definition i at next item g f) (picked below head room first begin) e
  where
    behind : ((i : Place) → replays below head room before i ≡ Ok (tt, at) → replays below head room (before ++ definition ∷ []) i ≡ Ok (tt, next)) →
        (o : Outcome KeptToken OpenScopes Around Item) → and_then o (λ next. replays below head room before) ≡ Ok (tt, at) →
        and_then o (λ next. replays below head room (before ++ definition ∷ [])) ≡ Ok (tt, next)
    behind more (Ok end) g = more end.1 g
    behind more (Err halt) g = absurd (cc)

-- ---- One of those that are read anew

-- A reading that stops stops what it begins.
pub halts_then : {A B : Type 0} (o : Outcome KeptToken OpenScopes Around A) (q : A → PartReader B) (s : Stop) → Halts o s → Halts (and_then o q) s
halts_then o q (stop.Offends token) h = (h.0, ap (λ (z : Outcome KeptToken OpenScopes Around _). and_then z q) h.1, h.2)
halts_then o q (stop.TooDeep token) h = (h.0, ap (λ (z : Outcome KeptToken OpenScopes Around _). and_then z q) h.1, h.2)
halts_then o q stop.Memory h = tt

module _ (below : BelowReaders) (head : ℕ → PartReader Head) (room : ℕ) (all : List Bool) (n : ℕ) (at : Place) {o : Outcome KeptToken OpenScopes Around (Prim.Unit {0})}
    (left : o ≡ replays below head room (drop n all) at) where
  abbrev behind : Item → PartReader (Prim.Unit {0})
  behind next = replays below head room (drop (n + 1) all)

  -- One is left.
  pub one_replay : (d : Bool) → n < length all → o ≡ and_then (picked below head room (get_or all n d) at) behind
  unfolding replays
  one_replay d h = left ∙ ap (λ (more : List Bool). replays below head room more at) (drop_more all n d h)

  -- It stops, or goes on.
  pub replay_stops : (d : Bool) (r : Result Item Stop) (next : Place) (s : Stop) → n < length all → Reads (picked below head room (get_or all n d) at) r next → r ≡ Err s → Halts o s
  replay_stops d r next s h reads was =
      subst (λ (z : Outcome KeptToken OpenScopes Around (Prim.Unit {0})). Halts z s) (sym (one_replay d h))
      (halts_then (picked below head room (get_or all n d) at) behind s (subst (λ (z : Result Item Stop). Reads (picked below head room (get_or all n d) at) z next) was reads))

  pub replay_goes_on : (d : Bool) (r : Result Item Stop) (next : Place) (item : Item) → n < length all → Reads (picked below head room (get_or all n d) at) r next → r ≡ Ok item →
      o ≡ replays below head room (drop (n + 1) all) next
  replay_goes_on d r next item h reads was =
      one_replay d h
      ∙ ap (λ (z : Outcome KeptToken OpenScopes Around Item). and_then z behind) (subst (λ (z : Result Item Stop). Reads (picked below head room (get_or all n d) at) z next) was reads)

  -- None is left.
  pub replay_ends : length all ≤ n → o ≡ Ok (tt, at)
  unfolding replays
  replay_ends h = left ∙ ap (λ (more : List Bool). replays below head room more at) (drop_past all n h)

-- Behind the replay of those before it.
pub behind_replay : {A : Type 0} {o : Outcome KeptToken OpenScopes Around (Prim.Unit {0})} (at : Place) (q : PartReader A) → o ≡ Ok (tt, at) →
    and_then o (λ behind. q) ≡ q at
behind_replay at q e = ap (λ (z : Outcome KeptToken OpenScopes Around (Prim.Unit {0})). and_then z (λ behind. q)) e

-- ---- The later of two stops

pub later_number : (at other : Place) → number_ahead (further at other) ≡ max (number_ahead at) (number_ahead other)
later_number at other = by (nat_lt (number_ahead other) (number_ahead at)) refl
  where
    by : (b : Bool) → nat_lt (number_ahead other) (number_ahead at) ≡ b → number_ahead (if b then at else other) ≡ max (number_ahead at) (number_ahead other)
    by true e = grind (arith, nat_tests)
    by false e = grind (arith, nat_tests)
