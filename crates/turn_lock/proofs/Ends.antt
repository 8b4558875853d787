-- The lock at its start and at its end.
use Rattle.std.proofs.Common.{◌≡◌, ℕ, ◌^◌, ◌<◌, ◌≤◌, List, [], ◌∷◌, Option, Some, None, sym, refl, ap, ◌∙◌, subst, arith, sum_by}
use Rattle.std.proofs.lemmas.List.Sums.{sum_by-cons}
use mathlib.Core.Option.{some}
use lib.ListN.{get_elem?}
use Rattle.atomic_table.specs.Table.{State, opening, Seen, Final}
use Rattle.turn_lock.specs.declared.view.View.{View}
use Rattle.turn_lock.specs.Entries.{positioned, AreAll, AreAt, Extends}
use Rattle.turn_lock.specs.Views.{one_if_some, own_weight, shares_in, tickets_in}
use Rattle.turn_lock.specs.Rule.{Fits, IsInTurn}
use Rattle.turn_lock.specs.Steps.{opening_view}
use Rattle.turn_lock.proofs.Entries.{at_later, extends_itself}
use Rattle.turn_lock.proofs.Totals.{only_one, part_of}
use Rattle.turn_lock.proofs.Views.{at_one, some_is}
use Rattle.turn_lock.proofs.Turning.{shared}

module _ {T N E : Type 0} (name : T → N) (history : T → List E) (may_become : T → T → Type 0) where
  abbrev V : Type 0
  V = View T E

  -- What whoever closes the lock finds of the value.
  pub record IsClosed (first : T) (v : V) (value : T) : Type 0 where
    pub named : name value ≡ name first
    pub grown : Extends (history value) v.seen
    pub became : may_become first value
    pub own : AreAt (history value) v.own
    pub all : AreAll (history value) v.own

  pub opens : (x : T) (all : ℕ) → all < 2 ^ 32 → 1 ≤ all → history x ≡ [] → may_become x x → IsInTurn name history may_become x all (opening (0 ∷ 0 ∷ []) (Some x ∷ []) (Some (opening_view x all)))
  opens x all small some1 empty stays =
      let v : V = opening_view x all in
      record {
        log = [];
        served = 0;
        drawn = 0;
        words = refl;
        slots = refl;
        out = refl;
        shares = sum_by-cons shares_in (Some v) [] ∙ omega arith;
        few = small;
        whole = λ h. refl;
        fits = λ j u e. subst (Fits name history may_become x [] 0 0) (some_is v u (at_one (Some v) (Some u) j e).1) (record {
          first_is = refl;
          seen = extends_itself [];
          shorter = extends_itself [];
          some = some1;
          own = tt;
          ticket = λ t h. absurd (cc);
          turn = λ y h. absurd (cc);
        });
        alone = λ i j t a b p q c d. (at_one (Some v) (Some a) i p).0 ∙ sym (at_one (Some v) (Some b) j q).0;
        home = λ h. record { value = x; at = refl; named = refl; is = empty; became = stays };
      }

  module _ (first : T) (all : ℕ) where
    abbrev Rule : State (Option T) (Option V) → Type 0
    Rule = IsInTurn name history may_become first all

    -- Who has all the shares is alone, and holds nothing.
    nobody_else : (s : State (Option T) (Option V)) (r : Rule s) (id : ℕ) (v : V) → get_elem? s.views id ≡ some (Some v) → v.shares ≡ all → v.ticket ≡ None → (j : ℕ) (u : V) → get_elem? s.views j ≡ some (Some u) → (b : Option T) → u.held ≡ b → u.held ≡ None
    nobody_else s r id v at whole free j u e None h = h
    nobody_else s r id v at whole free j u e (Some x) h =
        let t = ((r.fits j u e).turn x h).0 in
        let z : one_if_some v.ticket ≡ 0 = ap one_if_some free in
        let none = only_one tickets_in refl s.views id (Some v) at (shared name history may_become first all s r) (r.shares ∙ sym whole) in
        let one : one_if_some u.ticket ≡ 1 = ap one_if_some t in
        let k = part_of tickets_in s.views j (Some u) e in
        absurd (omega (arith, z, none, one, k))

    pub closes : (ws : List ℕ) (xs : List (Option T)) (id : ℕ) (v : V) → v.ticket ≡ None → v.shares ≡ all → Final (Seen Rule id (Some v)) ws xs
        → (x : T) × (get_elem? xs 0 ≡ some (Some x)) × IsClosed first v x
    closes ws xs id v free mine f =
        let s = f.0 in let r = f.1.0 in let at = f.1.1 in
        let h = r.home (λ j u e. nobody_else s r id v at mine free j u e u.held refl) in
        let fit = r.fits id v at in
        let x = h.value in
        let grown : Extends (history x) v.seen = subst (λ (l : List E). Extends l v.seen) (sym h.is) fit.seen in (
          x,
          f.4 0 (Some x) h.at,
          record {
            named = h.named;
            grown = grown;
            became = h.became;
            own = at_later (history x) v.seen v.own grown fit.own;
            all = λ w. sym (only_one (own_weight w) refl s.views id (Some v) at (shared name history may_become first all s r) (r.shares ∙ sym mine)) ∙ r.whole w ∙ ap (λ (l : List E). sum_by w (positioned l)) (sym h.is);
          },
        )
