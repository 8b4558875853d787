-- The views of all seats after a change of one.
use Rattle.std.proofs.Common.{◌≡◌, ◌≢◌, ℕ, zero, suc, List, [], ◌∷◌, ◌++◌, set, Option, Some, None, sym, refl, ap, ◌∙◌, ⊎_elim}
use mathlib.Core.Logic.{dite}
use mathlib.Core.Option.{some, some-injective, some-ne-none}
use native.Mathlib.Decide.{ℕ_discrete}
use lib.ListN.{get_elem?}
use Rattle.atomic_table.proofs.Lists.{set_else, at_set, at_snoc}
use Rattle.turn_lock.specs.declared.view.View.{View}
use Rattle.turn_lock.specs.Rule.{AreAlone, NoneHolds}

pub some_is : {A : Type 0} (a b : A) → Some a ≡ Some b → a ≡ b
some_is a b e = cc

module _ {T E : Type 0} where
  pub at_one : (a u : Option (View T E)) (j : ℕ) → get_elem? (a ∷ []) j ≡ some u → (j ≡ 0) × (a ≡ u)
  at_one a u zero e = (refl, some-injective a u e)
  at_one a u (suc j) e = absurd (some-ne-none u (sym e))

  -- One view at one position.
  pub one_view : (vs : List (Option (View T E))) (i j : ℕ) (v w : View T E) → get_elem? vs i ≡ some (Some v) → get_elem? vs j ≡ some (Some w) → j ≡ i → v ≡ w
  one_view vs i j v w a b q = some_is v w (some-injective (Some v) (Some w) (sym a ∙ (ap (λ (k : ℕ). get_elem? vs k) (sym q) ∙ b)))

  -- A view keeps its ticket.
  pub alone_same : (vs : List (Option (View T E))) (id : ℕ) (v x : View T E) → get_elem? vs id ≡ some (Some v) → x.ticket ≡ v.ticket → AreAlone vs → AreAlone (set vs id (Some x))
  alone_same vs id v x at same old i j t a b p q c d =
      ⊎_elim (λ k. ⊎_elim (λ l. k.0 ∙ sym l.0)
      (λ l. k.0 ∙ old id j t v b at l.1 (sym same ∙ ap (λ (z : View T E). z.ticket) (some_is x a k.1) ∙ c) d) (at_set vs id j (Some x) (Some b) q))
      (λ k. ⊎_elim (λ l. old i id t a v k.1 at c (sym same ∙ ap (λ (z : View T E). z.ticket) (some_is x b l.1) ∙ d) ∙ sym l.0)
      (λ l. old i j t a b k.1 l.1 c d) (at_set vs id j (Some x) (Some b) q))
      (at_set vs id i (Some x) (Some a) p)

  -- A view gains a ticket that no other has, or loses its own.
  pub alone_new : (vs : List (Option (View T E))) (id : ℕ) (x : View T E) → AreAlone vs → ((t j : ℕ) (v : View T E) → x.ticket ≡ Some t → j ≢ id → get_elem? vs j ≡ some (Some v) → v.ticket ≡ Some t → ⊥) → AreAlone (set vs id (Some x))
  alone_new vs id x old new i j t v w a b p q =
      ⊎_elim (λ k. ⊎_elim (λ l. k.0 ∙ sym l.0)
      (λ l. absurd (new t j w (ap (λ (z : View T E). z.ticket) (some_is x v k.1) ∙ p) l.0 l.1 q)) (at_set vs id j (Some x) (Some w) b))
      (λ k. ⊎_elim (λ l. absurd (new t i v (ap (λ (z : View T E). z.ticket) (some_is x w l.1) ∙ q) k.0 k.1 p))
      (λ l. old i j t v w k.1 l.1 p q) (at_set vs id j (Some x) (Some w) b))
      (at_set vs id i (Some x) (Some v) a)

  -- A new view without a ticket.
  pub alone_snoc : (vs : List (Option (View T E))) (x : View T E) → x.ticket ≡ None → AreAlone vs → AreAlone (vs ++ Some x ∷ [])
  alone_snoc vs x free old i j t a b p q c d =
      ⊎_elim (λ k. ⊎_elim (λ l. old i j t a b k l c d) (λ l. let e : None ≡ Some t = sym free ∙ ap (λ (z : View T E). z.ticket) (some_is x b l) ∙ d in absurd (cc)) (at_snoc vs (Some x) (Some b) j q))
      (λ k. let e : None ≡ Some t = sym free ∙ ap (λ (z : View T E). z.ticket) (some_is x a k) ∙ c in absurd (cc)) (at_snoc vs (Some x) (Some a) i p)

  -- Where no one holds the value after a change of a view that did not hold it, no one did before.
  pub none_held : (vs : List (Option (View T E))) (id : ℕ) (me : View T E) (x : Option (View T E)) → get_elem? vs id ≡ some (Some me) → me.held ≡ None → NoneHolds (set vs id x) → NoneHolds vs
  none_held vs id me x at out h j v e =
      dite (ℕ_discrete j id)
      (λ (q : j ≡ id). sym (ap (λ (z : View T E). z.held) (one_view vs id j me v at e q)) ∙ out)
      (λ (q : j ≢ id). h j v (set_else vs id j x q ∙ e))

  pub at_front : (vs : List (Option (View T E))) (x : Option (View T E)) (i : ℕ) (a : Option (View T E)) → get_elem? vs i ≡ some a → get_elem? (vs ++ x ∷ []) i ≡ some a
  at_front [] x i a e = absurd (some-ne-none a (sym e))
  at_front (y ∷ ys) x zero a e = e
  at_front (y ∷ ys) x (suc i) a e = at_front ys x i a e

  -- Where one seat was joined to another, each view that is left stood there.
  pub still : (vs : List (Option (View T E))) (other i : ℕ) (a : View T E) → get_elem? (set vs other None) i ≡ some (Some a) → get_elem? vs i ≡ some (Some a)
  still vs other i a p = ⊎_elim (λ q. absurd (let z : None ≡ Some a = q.1 in cc)) (λ q. q.1) (at_set vs other i None (Some a) p)
