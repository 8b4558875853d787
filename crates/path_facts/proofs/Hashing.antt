-- What a hash set of pairs of numbers has.
use Rattle.std.proofs.Common.{◌≡◌, ℕ, ◌⊎◌, inl, inr, Bool, true, false, ◌&&◌, refl, sym, ap, ◌∙◌, cond}
use Rattle.std.specs.Prelude.{nat_eq}
use Rattle.std.specs.Bool.{Decides}
use Rattle.std.specs.Cmp.{decided, IsEquivalence}
use Rattle.std.specs.List.{Contains}
use Rattle.std.specs.HashSet as bag
use Rattle.std.specs.HashSet.{HashSet}
use Rattle.std.proofs.lemmas.Bool.{and_from, and_parts, eq-eqb, eqb-true}
use Rattle.std.proofs.lemmas.Map.Views.{hash_set_contains_iff}

abbrev pub pair_eq : ℕ × ℕ → ℕ × ℕ → Bool
pair_eq x y = nat_eq x.0 y.0 && nat_eq x.1 y.1

pub pair_decides : (x y : ℕ × ℕ) → Decides (pair_eq x y) (x ≡ y)
pair_decides x y = (
  λ on.
      let parts = and_parts (nat_eq x.0 y.0) (nat_eq x.1 y.1) on in
      ap (λ (n : ℕ). (n, x.1)) (eqb-true x.0 y.0 parts.0) ∙ ap (λ (n : ℕ). (y.0, n)) (eqb-true x.1 y.1 parts.1),
  λ same. and_from (nat_eq x.0 y.0) (nat_eq x.1 y.1) (eq-eqb x.0 y.0 (ap (λ (p : ℕ × ℕ). p.0) same)) (eq-eqb x.1 y.1 (ap (λ (p : ℕ × ℕ). p.1) same)),
)

pub pair_equiv : IsEquivalence pair_eq
pair_equiv = decided pair_eq pair_decides

module _ {S : Type 0} where
  pub set_has : (set : HashSet (ℕ × ℕ) S) (pair : ℕ × ℕ) → (bag.contains pair_eq set pair ≡ true → Contains set.keys pair) × (Contains set.keys pair → bag.contains pair_eq set pair ≡ true)
  set_has set pair = hash_set_contains_iff pair_equiv (λ x y. (pair_decides x y).0) set pair

  module _ (set after : HashSet (ℕ × ℕ) S) (pair : ℕ × ℕ) (updates : bag.Updates pair_eq set after pair true) where
    pub updated_old : (other : ℕ × ℕ) → Contains set.keys other → Contains after.keys other
    updated_old other has = (set_has after other).0 (updates.0 other ∙ either (pair_eq pair other) (bag.contains pair_eq set other) ((set_has set other).1 has))
      where
        either : (b old : Bool) → old ≡ true → cond b true old ≡ true
        either true old is = refl
        either false old is = is

    pub updated_new : Contains after.keys pair
    updated_new = (set_has after pair).0 updates.1

    pub updated_only : (other : ℕ × ℕ) → Contains after.keys other → (other ≡ pair) ⊎ Contains set.keys other
    updated_only other has = by (pair_eq pair other) refl (sym (updates.0 other) ∙ (set_has after other).1 has)
      where
        by : (b : Bool) → pair_eq pair other ≡ b → cond (pair_eq pair other) true (bag.contains pair_eq set other) ≡ true → (other ≡ pair) ⊎ Contains set.keys other
        by true is on = inl (sym ((pair_decides pair other).0 is))
        by false is on = inr ((set_has set other).0 (ap (λ (b : Bool). cond b true (bag.contains pair_eq set other)) (sym is) ∙ on))
