-- Offers, splits and joins keep the rule of the lock.
use Rattle.std.proofs.Common.{◌≡◌, ◌≢◌, ℕ, ◌-◌, ◌^◌, ◌<◌, ◌≤◌, List, [], get_or, set, Option, Some, None, sym, refl, ap, ◌∙◌, subst, arith, inl, inr, ⊎_elim, eqb}
use Rattle.std.proofs.lemmas.List.Sums.{sum_by-append}
use mathlib.Core.Logic.{dite}
use mathlib.Core.Option.{none, some}
use native.Mathlib.Decide.{ℕ_discrete}
use prog.Atomic.{either}
use lib.ListN.{get_elem?}
use Rattle.atomic_table.specs.Table.{State, step, keeps, stepped, Allows, Splits, Joins}
use Rattle.atomic_table.proofs.Lists.{set_here, set_else, at_set, at_snoc, exchanged}
use Rattle.turn_lock.specs.declared.view.View.{View}
use Rattle.turn_lock.specs.Entries.{longer, shorter, Extends}
use Rattle.turn_lock.specs.Views.{one_if_some, own_weight, shares_in, tickets_in}
use Rattle.turn_lock.specs.Rule.{Fits, IsInTurn}
use Rattle.turn_lock.specs.Steps.{both_of, joined, left_of, right_of, Offers}
use Rattle.turn_lock.proofs.Entries.{extends_longer, longer_extends_both, longer_extends_shorter, at_both, at_later}
use Rattle.turn_lock.proofs.Totals.{in_range, part_of, sum_set, sum_snoc}
use Rattle.turn_lock.proofs.Views.{alone_same, alone_snoc, at_front, none_held, one_view, some_is, still}

module _ {T N E : Type 0} (name : T → N) (history : T → List E) (may_become : T → T → Type 0) (first : T) (all : ℕ) where
  abbrev V : Type 0
  V = View T E

  abbrev Rule : State (Option T) (Option V) → Type 0
  Rule = IsInTurn name history may_become first all

  abbrev FitsIn : List E → ℕ → ℕ → V → Type 0
  FitsIn = Fits name history may_become first

  pub splits : (id : ℕ) (v : V) → v.ticket ≡ None → v.held ≡ None → 1 ≤ v.offer → v.offer < v.shares → Splits Rule id (Some v) (left_of (Some v)) (right_of (Some v))
  splits id v free out some1 less s r at =
      let l : V = record v { shares = v.shares - v.offer } in
      let x : V = record v { shares = v.offer; own = []; ticket = None; held = None } in
      let f = r.fits id v at in
      let t1 = sum_set tickets_in s.views id (Some v) (Some l) at in let t2 = sum_snoc tickets_in (set s.views id (Some l)) (Some x) in
      let s1 = sum_set shares_in s.views id (Some v) (Some l) at in let s2 = sum_snoc shares_in (set s.views id (Some l)) (Some x) in
      record {
        log = r.log;
        served = r.served;
        drawn = r.drawn;
        words = r.words;
        slots = r.slots;
        out = omega (arith, t1, t2, r.out);
        shares = omega (arith, s1, s2, r.shares, less);
        few = r.few;
        whole = λ h. let a = sum_set (own_weight h) s.views id (Some v) (Some l) at in let b = sum_snoc (own_weight h) (set s.views id (Some l)) (Some x) in omega (arith, a, b, r.whole h);
        fits = λ j w e. ⊎_elim (λ k. ⊎_elim
            (λ p. subst (FitsIn r.log r.served r.drawn) (some_is l w p.1) (record { first_is = f.first_is; seen = f.seen; shorter = f.shorter; some = omega (arith, less); own = f.own; ticket = f.ticket; turn = f.turn }))
            (λ p. r.fits j w p.1) (at_set s.views id j (Some l) (Some w) k))
            (λ k. subst (FitsIn r.log r.served r.drawn) (some_is x w k) (record { first_is = f.first_is; seen = f.seen; shorter = f.shorter; some = some1; own = tt; ticket = λ t h. absurd (cc); turn = λ y h. absurd (cc) }))
            (at_snoc (set s.views id (Some l)) (Some x) (Some w) j e);
        alone = alone_snoc (set s.views id (Some l)) x refl (alone_same s.views id v l at refl r.alone);
        home = λ h. r.home (none_held s.views id v (Some l) at out (λ j w e. h j w (at_front (set s.views id (Some l)) (Some x) j (Some w) e)));
      }

  pub joins : (id other : ℕ) (v w : V) → v.ticket ≡ None → v.held ≡ None → w.ticket ≡ None → w.held ≡ None → Joins Rule id (Some v) other (Some w) (both_of (Some v) (Some w)) None
  joins id other v w free out free' out' s r at ne at2 =
      let b : V = joined v w in
      let atw : get_elem? s.views other ≡ some (Some w) = sym (set_else s.views id other (Some b) ne) ∙ at2 in
      let f = r.fits id v at in let f' = r.fits other w atw in
      let t1 = sum_set tickets_in s.views id (Some v) (Some b) at in let t2 = sum_set tickets_in (set s.views id (Some b)) other (Some w) None at2 in
      let s1 = sum_set shares_in s.views id (Some v) (Some b) at in let s2 = sum_set shares_in (set s.views id (Some b)) other (Some w) None at2 in
      let none_out : one_if_some w.ticket ≡ 0 = ap one_if_some free' in
      let seen : Extends r.log (longer v.seen w.seen) = extends_longer r.log v.seen w.seen f.seen f'.seen in
      let short : Extends (longer v.seen w.seen) (shorter v.seen w.seen) = longer_extends_shorter r.log v.seen w.seen f.seen f'.seen in
      let two = longer_extends_both v.seen w.seen short in
      record {
        log = r.log;
        served = r.served;
        drawn = r.drawn;
        words = r.words;
        slots = r.slots;
        out = omega (arith, t1, t2, none_out, r.out);
        shares = omega (arith, s1, s2, r.shares);
        few = r.few;
        whole = λ h. let a = sum_set (own_weight h) s.views id (Some v) (Some b) at in let c = sum_set (own_weight h) (set s.views id (Some b)) other (Some w) None at2 in let d = sum_by-append h v.own w.own in omega (arith, a, c, d, r.whole h);
        fits = λ j u e. ⊎_elim (λ p. absurd (let q : None ≡ Some u = p.1 in cc))
            (λ p. ⊎_elim (λ q. subst (FitsIn r.log r.served r.drawn) (some_is b u q.1) (record {
              first_is = f.first_is;
              seen = seen;
              shorter = short;
              some = omega (arith, f.some);
              own = at_both (longer v.seen w.seen) v.own w.own (at_later (longer v.seen w.seen) v.seen v.own two.0 f.own) (at_later (longer v.seen w.seen) w.seen w.own two.1 f'.own);
              ticket = f.ticket;
              turn = λ y h. absurd (let c : None ≡ Some y = sym out ∙ h in cc);
            }))
            (λ q. r.fits j u q.1) (at_set s.views id j (Some b) (Some u) p.1))
            (at_set (set s.views id (Some b)) other j None (Some u) e);
        alone = λ i j t a c p q h k. alone_same s.views id v b at refl r.alone i j t a c (still (set s.views id (Some b)) other i a p) (still (set s.views id (Some b)) other j c q) h k;
        home = λ h. r.home (none_held s.views id v (Some b) at out (λ j u e. ⊎_elim (λ (q : j ≡ other). sym (ap (λ (z : V). z.held) (one_view (set s.views id (Some b)) other j w u at2 e q)) ∙ out')
            (λ (q : j ≢ other). h j u (set_else (set s.views id (Some b)) other j None q ∙ e)) (dite (ℕ_discrete j other) inl inr)));
      }

  -- A number is offered: the word stays as it is.
  pub offers : (id : ℕ) (v : V) (c : List (ℕ × Option T)) (k : ℕ) → Allows Rule 1 id (Some v, c) 0 (λ n. either (eqb n k) k n) (Offers (step 1 0 k k none) (Some v, c))
  offers id v c k s r wide at small =
      let w : V = record v { offer = k } in
      let f = r.fits id v at in
      let kept : Rule (stepped s 0 (get_or s.words 0 0) id c (Some w) keeps) = record {
        log = r.log;
        served = r.served;
        drawn = r.drawn;
        words = ap (λ (l : List ℕ). set l 0 (get_or l 0 0)) r.words;
        slots = r.slots;
        out = let q = sum_set tickets_in s.views id (Some v) (Some w) at in omega (arith, q, r.out);
        shares = let q = sum_set shares_in s.views id (Some v) (Some w) at in omega (arith, q, r.shares);
        few = r.few;
        whole = λ h. let a = sum_set (own_weight h) s.views id (Some v) (Some w) at in omega (arith, a, r.whole h);
        fits = λ j u e. ⊎_elim (λ p. subst (FitsIn r.log r.served r.drawn) (some_is w u p.1) (record { first_is = f.first_is; seen = f.seen; shorter = f.shorter; some = f.some; own = f.own; ticket = f.ticket; turn = f.turn }))
            (λ p. r.fits j u p.1) (at_set s.views id j (Some w) (Some u) e);
        alone = alone_same s.views id v w at refl r.alone;
        home = λ h. r.home (λ j u e. dite (ℕ_discrete j id)
            (λ (q : j ≡ id). sym (ap (λ (z : V). z.held) (one_view s.views id j v u at e q)) ∙ h id w (set_here s.views id (Some w) (in_range s.views id (Some v) at)))
            (λ (q : j ≢ id). h j u (set_else s.views id j (Some w) q ∙ e)));
      } in (
        Some w,
        keeps,
        tt,
        exchanged (get_or s.words 0 0) k k (λ (n : ℕ). Rule (stepped s 0 n id c (Some w) keeps)) (λ e. subst (λ (n : ℕ). Rule (stepped s 0 n id c (Some w) keeps)) e kept) (λ e. kept),
        λ u e. let more = subst (λ (z : V). Extends z.seen z.shorter × (z.shares < 2 ^ 32)) (some_is v u e) (f.shorter, let p = part_of shares_in s.views id (Some v) at in omega (arith, p, r.shares, r.few)) in
            ((λ i. (Some (record (some_is v u e i) { offer = k }), c)), more.0, more.1),
      )
