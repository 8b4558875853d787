-- What each call owes at its steps, and what a seat is after them.
use Rattle.std.proofs.Common.{◌≡◌, ℕ, ◌+◌, ◌-◌, ◌%◌, ◌^◌, ◌<◌, ◌≤◌, List, [], ◌∷◌, Option, Some, None, sym, refl, ap, ◌∙◌, subst, eqb}
use mathlib.Core.Option.{none, some, some-injective}
use prog.Atomic.{either}
use lib.ListN.{get_elem?}
use Rattle.atomic_table.specs.Table.{State, step, rest, opening, Allows, Splits, Joins, Seen, Final}
use Rattle.turn_lock.specs.declared.view.View.{View}
use Rattle.turn_lock.specs.Entries.{Extends}
use Rattle.turn_lock.specs.Rule.{IsInTurn}
use Rattle.turn_lock.specs.Steps.{both_of, joined, left_of, opening_view, right_of, Draws, Looks, Offers, Mine, PassesOn, Takes}
use Rattle.turn_lock.proofs.Views.{some_is}
use Rattle.turn_lock.proofs.SplitAndJoin.{joins, offers, splits}
use Rattle.turn_lock.proofs.Turning.{draws, looks, passes}
use Rattle.turn_lock.proofs.Ends.{closes, opens, IsClosed}

abbrev front : {T : Type 0} → List (ℕ × Option T) → Option T
front [] = None
front (c ∷ cs) = c.1

module _ {T E : Type 0} where
  pub split_ends : (m m1 m2 m3 : Mine T E) (v : View T E) (k : ℕ) → m ≡ (Some v, []) → m1 ≡ (Some (record v { offer = k }), m.1) → m2 ≡ (left_of m1.0, m1.1) → m3 ≡ (right_of m1.0, [])
      → (m2 ≡ (Some (record v { offer = k; shares = v.shares - k }), [])) × (m3 ≡ (Some (record v { offer = k; shares = k; own = []; ticket = None; held = None }), []))
  split_ends m m1 m2 m3 v k e e1 e2 e3 =
      let f : m1 ≡ (Some (record v { offer = k }), []) = e1 ∙ ap (λ (n : Mine T E). (Some (record v { offer = k }), n.1)) e in
      (e2 ∙ ap (λ (n : Mine T E). (left_of n.0, n.1)) f, e3 ∙ ap (λ (n : Mine T E). (right_of n.0, [])) f)

  pub join_ends : (m n m1 : Mine T E) (v w : View T E) → m ≡ (Some v, []) → n ≡ (Some w, []) → m1 ≡ (both_of m.0 n.0, m.1) → m1 ≡ (Some (joined v w), [])
  join_ends m n m1 v w e f e1 = e1 ∙ ap (λ (z : Mine T E × Mine T E). (both_of z.0.0 z.1.0, z.0.1)) (λ i. (e i, f i))

module _ {T N E : Type 0} (name : T → N) (history : T → List E) (may_become : T → T → Type 0) where
  -- What is known of a value that was taken, and of the seat that took it.
  pub record HasTook (v : View T E) (ticket : ℕ) (m : Mine T E) (x : T) : Type 0 where
    pub named : name x ≡ name v.first
    pub grown : Extends (history x) v.seen
    pub became : may_become v.first x
    pub seat : m ≡ (Some (record v { seen = history x; ticket = Some ticket; held = Some x }), (0, None) ∷ [])

  pub take_ends : (m1 m2 m3 : Mine T E) (v : View T E) (t : ℕ) (r : Option T) (x : T) → m1 ≡ (Some (record v { ticket = Some t }), []) → Takes name history may_become (record v { ticket = Some t }) m1 m2
      → m2.1 ≡ (0, r) ∷ rest m2.1 → m3 ≡ (m2.0, (0, None) ∷ rest m2.1) → r ≡ Some x → HasTook v t m3 x
  take_ends m1 m2 m3 v t r x e1 took e2 e3 er =
      let y = took.value in
      let f2 : m2 ≡ (Some (record v { seen = history y; ticket = Some t; held = Some y }), (0, Some y) ∷ []) = took.seat ∙ ap (λ (n : Mine T E). (Some (record v { seen = history y; ticket = Some t; held = Some y }), (0, Some y) ∷ n.1)) e1 in
      let at : m2.1 ≡ (0, Some y) ∷ [] = ap (λ (n : Mine T E). n.1) f2 in
      let is : y ≡ x = some_is y x (ap front (sym at ∙ e2) ∙ er) in
      let f3 : m3 ≡ (Some (record v { seen = history y; ticket = Some t; held = Some y }), (0, None) ∷ []) = e3 ∙ ap (λ (n : Mine T E). (n.0, (0, None) ∷ rest n.1)) f2 in
      subst (HasTook v t m3) is (record { named = took.named; grown = took.grown; became = took.became; seat = f3 })

  pub take_some : (m1 m2 : Mine T E) (v : View T E) (t : ℕ) (r : Option T) → m1 ≡ (Some (record v { ticket = Some t }), []) → (took : Takes name history may_become (record v { ticket = Some t }) m1 m2) → m2.1 ≡ (0, r) ∷ rest m2.1 → Some took.value ≡ r
  take_some m1 m2 v t r e1 took e2 = ap front (sym (ap (λ (n : Mine T E). n.1) took.seat) ∙ e2)

  pub opens_at : (all : ℕ) (xs : List (Option T)) (x y : T) → xs ≡ Some x ∷ [] → y ≡ x → all < 2 ^ 32 → 1 ≤ all → history x ≡ [] → may_become x x → IsInTurn name history may_become y all (opening (0 ∷ 0 ∷ []) xs (Some (opening_view y all)))
  opens_at all xs x y e f few some1 empty stays = subst (λ (l : List (Option T)). IsInTurn name history may_become y all (opening (0 ∷ 0 ∷ []) l (Some (opening_view y all)))) (sym e)
      (subst (λ (z : T). IsInTurn name history may_become z all (opening (0 ∷ 0 ∷ []) (Some x ∷ []) (Some (opening_view z all)))) (sym f) (opens name history may_become x all few some1 empty stays))

  module _ (first : T) (all : ℕ) where
    abbrev Rule : State (Option T) (Option (View T E)) → Type 0
    Rule = IsInTurn name history may_become first all

    pub draws_at : (slots id : ℕ) (m : Mine T E) (v : View T E) → slots ≡ 1 → m ≡ (Some v, []) → v.ticket ≡ None → v.held ≡ None → Allows Rule slots id m 0 (λ n. (n + 1) % 2 ^ 64) (Draws (step slots 0 1 0 none) m)
    draws_at slots id m v e is free out = subst (λ (n : ℕ). Allows Rule n id m 0 (λ n. (n + 1) % 2 ^ 64) (Draws (step n 0 1 0 none) m)) (sym e)
        (subst (λ (m : Mine T E). Allows Rule 1 id m 0 (λ n. (n + 1) % 2 ^ 64) (Draws (step 1 0 1 0 none) m)) (sym is) (draws name history may_become first all id v [] free out))

    pub looks_at : (slots id t : ℕ) (m : Mine T E) (v : View T E) → slots ≡ 1 → v.held ≡ None → m ≡ (Some (record v { ticket = Some t }), []) → Allows Rule slots id m 1 (λ n. n) (Looks name history may_become (step slots 1 0 0 none) m)
    looks_at slots id t m v e out is = subst (λ (n : ℕ). Allows Rule n id m 1 (λ n. n) (Looks name history may_become (step n 1 0 0 none) m)) (sym e)
        (subst (λ (m : Mine T E). Allows Rule 1 id m 1 (λ n. n) (Looks name history may_become (step 1 1 0 0 none) m)) (sym is) (looks name history may_become first all id (record v { ticket = Some t }) [] t refl out))

    pub passes_at : (slots id t : ℕ) (m : Mine T E) (v : View T E) (x y : T) → slots ≡ 1 → m ≡ (Some v, (0, Some y) ∷ []) → v.ticket ≡ Some t → v.held ≡ Some x → name y ≡ name v.first → Extends (history y) v.seen → (may_become first x → may_become first y)
        → Allows Rule slots id m 1 (λ n. (n + 1) % 2 ^ 64) (PassesOn history (step slots 1 1 0 none) m)
    passes_at slots id t m v x y e is mine held named grown becomes = subst (λ (n : ℕ). Allows Rule n id m 1 (λ n. (n + 1) % 2 ^ 64) (PassesOn history (step n 1 1 0 none) m)) (sym e)
        (subst (λ (m : Mine T E). Allows Rule 1 id m 1 (λ n. (n + 1) % 2 ^ 64) (PassesOn history (step 1 1 1 0 none) m)) (sym is) (passes name history may_become first all id v t x y mine held named grown becomes))

    pub offers_at : (slots id k : ℕ) (m : Mine T E) (o : Option (View T E)) (c : List (ℕ × Option T)) (v : View T E) → slots ≡ 1 → m ≡ (o, c) → o ≡ Some v → Allows Rule slots id m 0 (λ n. either (eqb n k) k n) (Offers (step slots 0 k k none) m)
    offers_at slots id k m o c v e is f = subst (λ (n : ℕ). Allows Rule n id m 0 (λ n. either (eqb n k) k n) (Offers (step n 0 k k none) m)) (sym e)
        (subst (λ (m : Mine T E). Allows Rule 1 id m 0 (λ n. either (eqb n k) k n) (Offers (step 1 0 k k none) m)) (sym (is ∙ ap (λ (z : Option (View T E)). (z, c)) f)) (offers name history may_become first all id v c k))

    pub splits_at : (id k : ℕ) (o : Option (View T E)) (v : View T E) → o ≡ Some (record v { offer = k }) → v.ticket ≡ None → v.held ≡ None → 1 ≤ k → k < v.shares → Splits Rule id o (left_of o) (right_of o)
    splits_at id k o v is free out some1 less = subst (λ (o : Option (View T E)). Splits Rule id o (left_of o) (right_of o)) (sym is) (splits name history may_become first all id (record v { offer = k }) free out some1 less)

    pub joins_at : (id other : ℕ) (o p : Option (View T E)) (v w : View T E) → o ≡ Some v → p ≡ Some w → v.ticket ≡ None → v.held ≡ None → w.ticket ≡ None → w.held ≡ None → Joins Rule id o other p (both_of o p) None
    joins_at id other o p v w e f free out free' out' =
        subst (λ (o : Option (View T E)). Joins Rule id o other p (both_of o p) None) (sym e)
        (subst (λ (p : Option (View T E)). Joins Rule id (Some v) other p (both_of (Some v) p) None) (sym f) (joins name history may_become first all id other v w free out free' out'))

    pub close_ends : (ws : List ℕ) (xs : List (Option T)) (id : ℕ) (m : Mine T E) (v : View T E) (r : Option T) → m ≡ (Some v, []) → v.ticket ≡ None → v.shares ≡ all → Final (Seen Rule id m.0) ws xs → get_elem? xs 0 ≡ some r
        → (x : T) × (r ≡ Some x) × IsClosed name history may_become first v x
    close_ends ws xs id m v r e free mine f at =
        let k = closes name history may_become first all ws xs id v free mine (subst (λ (n : Mine T E). Final (Seen Rule id n.0) ws xs) e f) in
        (k.0, some-injective r (Some k.0) (sym at ∙ k.1), k.2)
