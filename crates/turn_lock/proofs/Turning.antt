-- Draws, looks and passing on keep the rule of the lock.
use Rattle.std.proofs.Common.{◌≡◌, ◌≢◌, ℕ, ◌+◌, ◌%◌, ◌^◌, ◌<◌, List, [], ◌∷◌, get_or, set, Option, Some, None, sym, refl, ap, ◌∙◌, subst, arith, length-set, ⊎_elim, sum_by}
use Rattle.std.proofs.lemmas.List.Sums.{sum_by-append}
use mathlib.Core.Logic.{dite}
use mathlib.Core.Option.{none, some}
use native.Mathlib.Decide.{ℕ_discrete}
use lib.ListN.{get_elem?}
use Rattle.atomic_table.specs.Table.{State, step, keeps, takes, gives, stepped, Allows}
use Rattle.atomic_table.proofs.Lists.{set_again, set_here, at_set, one_turn}
use Rattle.turn_lock.specs.declared.view.View.{View}
use Rattle.turn_lock.specs.Entries.{added, positioned, Extends}
use Rattle.turn_lock.specs.Views.{one_if_some, own_weight, shares_in, tickets_in}
use Rattle.turn_lock.specs.Rule.{Fits, IsInTurn, NoneHolds}
use Rattle.turn_lock.specs.Steps.{gave, Draws, Looks, PassesOn}
use Rattle.turn_lock.proofs.Entries.{added_at, at_both, at_later, extends_itself, extends_on, weight_of_added}
use Rattle.turn_lock.proofs.Totals.{in_range, sum_set, tickets_few, Shared}
use Rattle.turn_lock.proofs.Views.{alone_new, alone_same, none_held, one_view, some_is}

module _ {T N E : Type 0} (name : T → N) (history : T → List E) (may_become : T → T → Type 0) (first : T) (all : ℕ) where
  abbrev V : Type 0
  V = View T E

  abbrev S : Type 0
  S = State (Option T) (Option V)

  abbrev Rule : S → Type 0
  Rule = IsInTurn name history may_become first all

  abbrev FitsIn : List E → ℕ → ℕ → V → Type 0
  FitsIn = Fits name history may_become first

  pub shared : (s : S) (r : Rule s) → Shared s.views
  shared s r i v e = (r.fits i v e).some

  few : (s : S) (r : Rule s) → sum_by tickets_in s.views < 2 ^ 32
  few s r = let a = tickets_few s.views (shared s r) in omega (arith, a, r.shares, r.few)

  pub draws : (id : ℕ) (v : V) (c : List (ℕ × Option T)) → v.ticket ≡ None → v.held ≡ None → Allows Rule 1 id (Some v, c) 0 (λ n. (n + 1) % 2 ^ 64) (Draws (step 1 0 1 0 none) (Some v, c))
  draws id v c free out s r wide at small =
      let w : V = record v { ticket = Some r.drawn } in
      let mine = r.fits id v at in
      let is : get_or s.words 0 0 ≡ r.drawn % 2 ^ 64 = ap (λ (l : List ℕ). get_or l 0 0) r.words in
      let more : (get_or s.words 0 0 + 1) % 2 ^ 64 ≡ (r.drawn + 1) % 2 ^ 64 = omega (arith, is) in
      let sum = sum_set tickets_in s.views id (Some v) (Some w) at in
      let none_yet : one_if_some v.ticket ≡ 0 = ap one_if_some free in
      let o = r.out in (
        Some w,
        keeps,
        tt,
        record {
          log = r.log;
          served = r.served;
          drawn = r.drawn + 1;
          words = ap (λ (l : List ℕ). set l 0 ((get_or s.words 0 0 + 1) % 2 ^ 64)) r.words ∙ ap (λ (n : ℕ). n ∷ r.served % 2 ^ 64 ∷ []) more;
          slots = r.slots;
          out = omega (arith, sum, none_yet, o);
          shares = let k = sum_set shares_in s.views id (Some v) (Some w) at in omega (arith, k, r.shares);
          few = r.few;
          whole = λ h. let a = sum_set (own_weight h) s.views id (Some v) (Some w) at in omega (arith, a, r.whole h);
          fits = λ j u e. ⊎_elim (λ p. subst (FitsIn r.log r.served (r.drawn + 1)) (some_is w u p.1) (record {
            first_is = mine.first_is;
            seen = mine.seen;
            shorter = mine.shorter;
            some = mine.some;
            own = mine.own;
            ticket = λ t h. let k : r.drawn ≡ t = some_is r.drawn t h in (omega (arith, k, o), omega (arith, k));
            turn = λ x h. absurd (let c : None ≡ Some x = sym out ∙ h in cc);
          })) (λ p. let f = r.fits j u p.1 in record {
            first_is = f.first_is;
            seen = f.seen;
            shorter = f.shorter;
            some = f.some;
            own = f.own;
            ticket = λ t h. let k = f.ticket t h in (k.0, omega (arith, k.1));
            turn = f.turn;
          }) (at_set s.views id j (Some w) (Some u) e);
          alone = alone_new s.views id w r.alone (λ t j u p q e h. let k : r.drawn ≡ t = some_is r.drawn t p in let f = ((r.fits j u e).ticket t h).1 in absurd (omega (arith, k, f)));
          home = λ h. r.home (none_held s.views id v (Some w) at out h);
        },
        λ u e. let same : v ≡ u = some_is v u e in (r.drawn, is, λ i. (Some (record (same i) { ticket = Some r.drawn }), c)),
      )

  -- Where the ticket of a seat that does not hold the value is served, no one holds it.
  held_by : (s : S) (r : Rule s) (id : ℕ) (me : V) (t : ℕ) → r.served ≡ t → me.ticket ≡ Some t → me.held ≡ None → get_elem? s.views id ≡ some (Some me) → (j : ℕ) (v : V) → get_elem? s.views j ≡ some (Some v) → (b : Option T) → v.held ≡ b → v.held ≡ None
  held_by s r id me t turn mine out at j v e None h = h
  held_by s r id me t turn mine out at j v e (Some x) h =
      let k : v.ticket ≡ Some t = ((r.fits j v e).turn x h).0 ∙ ap Some turn in
      let same : j ≡ id = r.alone j id t v me e at k mine in
      let is : me ≡ v = one_view s.views id j me v at e same in
      sym (ap (λ (z : V). z.held) is) ∙ out

  same_state : (id : ℕ) (v : V) (c : List (ℕ × Option T)) (i : ℕ) (s : S) → Rule s → set s.words i (get_or s.words i 0) ≡ s.words → get_elem? s.views id ≡ some (Some v) → Rule (stepped s i (get_or s.words i 0) id c (Some v) keeps)
  same_state id v c i s r words at =
      let views : set s.views id (Some v) ≡ s.views = set_again s.views id (Some v) at in
      subst (λ (z : List ℕ × List (Option V)). Rule (record { words = z.0; homes = s.homes; views = z.1 })) (λ i. (sym words i, sym views i)) r

  pub looks : (id : ℕ) (v : V) (c : List (ℕ × Option T)) (t : ℕ) → v.ticket ≡ Some t → v.held ≡ None → Allows Rule 1 id (Some v, c) 1 (λ n. n) (Looks name history may_become (step 1 1 0 0 none) (Some v, c))
  looks id v c t mine out s r wide at small =
      let f = r.fits id v at in let range = f.ticket t mine in let lots = few s r in
      let is : get_or s.words 1 0 ≡ r.served % 2 ^ 64 = ap (λ (l : List ℕ). get_or l 1 0) r.words in
      let one : (u : V) (q : ℕ) → Some v ≡ Some u → u.ticket ≡ Some q → t ≡ q = λ u q e p. some_is t q (sym mine ∙ ap (λ (z : V). z.ticket) (some_is v u e) ∙ p) in
      dite (ℕ_discrete (r.served % 2 ^ 64) (t % 2 ^ 64))
      (λ (hit : r.served % 2 ^ 64 ≡ t % 2 ^ 64).
      let turn : r.served ≡ t = one_turn r.served t (2 ^ 64) (omega (arith, range, r.out, lots)) (omega (arith, range, r.out, lots)) hit in
      let nobody : NoneHolds s.views = λ j u e. held_by s r id v t turn mine out at j u e u.held refl in
      let x = r.home nobody in
      let y = x.value in
      let w : V = record v { seen = history y; held = Some y } in
      let grown : Extends (history y) v.seen = subst (λ (l : List E). Extends l v.seen) (sym x.is) f.seen in (
        Some w,
        takes 0 (Some y),
        x.at,
        record {
          log = r.log;
          served = r.served;
          drawn = r.drawn;
          words = ap (λ (l : List ℕ). set l 1 (get_or l 1 0)) r.words;
          slots = length-set s.homes 0 none ∙ r.slots;
          out = let k = sum_set tickets_in s.views id (Some v) (Some w) at in omega (arith, k, r.out);
          shares = let k = sum_set shares_in s.views id (Some v) (Some w) at in omega (arith, k, r.shares);
          few = r.few;
          whole = λ h. let a = sum_set (own_weight h) s.views id (Some v) (Some w) at in omega (arith, a, r.whole h);
          fits = λ j u e. ⊎_elim (λ p. subst (FitsIn r.log r.served r.drawn) (some_is w u p.1) (record {
            first_is = f.first_is;
            seen = subst (Extends r.log) (sym x.is) (extends_itself r.log);
            shorter = extends_on (history y) v.seen v.shorter grown f.shorter;
            some = f.some;
            own = at_later (history y) v.seen v.own grown f.own;
            ticket = f.ticket;
            turn = λ z h. (mine ∙ ap Some (sym turn), x.is, subst (may_become first) (some_is y z h) x.became);
          })) (λ p. r.fits j u p.1) (at_set s.views id j (Some w) (Some u) e);
          alone = alone_same s.views id v w at refl r.alone;
          home = λ h. absurd (let k : Some y ≡ None = h id w (set_here s.views id (Some w) (in_range s.views id (Some v) at)) in cc);
        },
        λ u q e p. (
          (λ h. record {
            value = y;
            seat = λ i. (Some (record (some_is v u e i) { seen = history y; held = Some y }), (0, Some y) ∷ c);
            named = x.named ∙ ap name (sym f.first_is) ∙ ap (λ (z : V). name z.first) (some_is v u e);
            grown = subst (λ (z : V). Extends (history y) z.seen) (some_is v u e) grown;
            became = subst (λ (z : V). may_become z.first y) (some_is v u e) (subst (λ (z : T). may_become z y) (sym f.first_is) x.became);
          }),
          λ h. absurd (h (is ∙ hit ∙ ap (λ (n : ℕ). n % 2 ^ 64) (one u q e p))),
        ),
      ))
      (λ (miss : r.served % 2 ^ 64 ≢ t % 2 ^ 64). (
        Some v,
        keeps,
        tt,
        same_state id v c 1 s r (ap (λ (l : List ℕ). set l 1 (get_or l 1 0)) r.words ∙ sym r.words) at,
        λ u q e p. ((λ h. absurd (miss (sym is ∙ h ∙ ap (λ (n : ℕ). n % 2 ^ 64) (sym (one u q e p))))), λ h. refl),
      ))

  abbrev value_at_front : List (ℕ × Option T) → Option T
  value_at_front [] = None
  value_at_front (c ∷ cs) = c.1

  pub passes : (id : ℕ) (v : V) (t : ℕ) (x y : T) → v.ticket ≡ Some t → v.held ≡ Some x → name y ≡ name v.first → Extends (history y) v.seen → (may_become first x → may_become first y)
      → Allows Rule 1 id (Some v, (0, Some y) ∷ []) 1 (λ n. (n + 1) % 2 ^ 64) (PassesOn history (step 1 1 1 0 none) (Some v, (0, Some y) ∷ []))
  passes id v t x y mine held named grown becomes s r wide at small =
      let f = r.fits id v at in let now = f.turn x held in let o = r.out in let range = f.ticket r.served now.0 in
      let w : V = gave history v y in
      let is : get_or s.words 1 0 ≡ r.served % 2 ^ 64 = ap (λ (l : List ℕ). get_or l 1 0) r.words in
      let more : (get_or s.words 1 0 + 1) % 2 ^ 64 ≡ (r.served + 1) % 2 ^ 64 = omega (arith, is) in
      let sum = sum_set tickets_in s.views id (Some v) (Some w) at in
      let one : one_if_some v.ticket ≡ 1 = ap one_if_some now.0 in
      let later : Extends (history y) r.log = subst (Extends (history y)) now.1 grown in (
        Some w,
        gives,
        tt,
        record {
          log = history y;
          served = r.served + 1;
          drawn = r.drawn;
          words = ap (λ (l : List ℕ). set l 1 ((get_or s.words 1 0 + 1) % 2 ^ 64)) r.words ∙ ap (λ (n : ℕ). r.drawn % 2 ^ 64 ∷ n ∷ []) more;
          slots = length-set s.homes 0 (some (Some y)) ∙ r.slots;
          out = omega (arith, sum, one, o);
          shares = let k = sum_set shares_in s.views id (Some v) (Some w) at in omega (arith, k, r.shares);
          few = r.few;
          whole = λ h.
              let a = sum_set (own_weight h) s.views id (Some v) (Some w) at in
              let b = sum_by-append h v.own (added v.seen (history y)) in
              let c = weight_of_added h (history y) v.seen grown in
              let d : sum_by h (positioned v.seen) ≡ sum_by h (positioned r.log) = ap (λ (l : List E). sum_by h (positioned l)) now.1 in
              omega (arith, a, b, c, d, r.whole h);
          fits = λ j u e. ⊎_elim (λ p. subst (FitsIn (history y) (r.served + 1) r.drawn) (some_is w u p.1) (record {
            first_is = f.first_is;
            seen = extends_itself (history y);
            shorter = extends_on (history y) v.seen v.shorter grown f.shorter;
            some = f.some;
            own = at_both (history y) v.own (added v.seen (history y)) (at_later (history y) v.seen v.own grown f.own) (added_at (history y) v.seen grown);
            ticket = λ q h. absurd (cc);
            turn = λ z h. absurd (cc);
          })) (λ p. let g = r.fits j u p.1 in record {
            first_is = g.first_is;
            seen = extends_on (history y) r.log u.seen later g.seen;
            shorter = g.shorter;
            some = g.some;
            own = g.own;
            ticket = λ q h. let k = g.ticket q h in let ne : q ≢ r.served = λ z. p.0 (r.alone j id r.served u v p.1 at (h ∙ ap Some z) now.0) in (omega (arith, k.0, ne), k.1);
            turn = λ z h. absurd (p.0 (r.alone j id r.served u v p.1 at (g.turn z h).0 now.0));
          }) (at_set s.views id j (Some w) (Some u) e);
          alone = alone_new s.views id w r.alone (λ q j u p z e k. absurd (cc));
          home = λ h. record { value = y; at = set_here s.homes 0 (some (Some y)) (omega (arith, r.slots)); named = named ∙ ap name f.first_is; is = refl; became = becomes now.2 };
        },
        λ u z e p. let same : y ≡ z = some_is y z (ap value_at_front p) in λ i. (Some (gave history (some_is v u e i) (same i)), []),
      )
