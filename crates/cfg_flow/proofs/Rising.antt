-- Edges that are sorted, each there once, rise.
use Rattle.std.proofs.Common.{ℕ, ◌≡◌, ◌<◌, ◌↔◌, ◌⊎◌, inl, inr, List, [], ◌∷◌, Bool, true, false, eqb, refl, sym, ◌∙◌, ap, subst, arith}
use Rattle.std.specs.Prelude.{◌&&◌}
use Rattle.std.specs.Cmp.{IsEquivalence, IsTotalOrder, unsigned_ties}
use Rattle.std.specs.declared.cmp.Ordering.{Ordering}
use Rattle.std.specs.declared.cmp.Ordering.TheVariants.{Less, Equal, Greater}
use Rattle.std.specs.Ordering.{eq_by_cmp, is_eq, nat_cmp, ordering_then}
use Rattle.std.specs.List.{AllByRecursion, Contains, dedup}
use Rattle.std.specs.List.Sorted.{IsPermutation, IsStrictlySortedBy}
use Rattle.std.proofs.lemmas.Bool.{eqb-true}
use Rattle.std.proofs.lemmas.Cmp.{by_ranked, eq_by_cmp_equiv, ranked, nat_cmp_total, on_total, then_total}
use Rattle.std.proofs.lemmas.List.Sorted.{Contains-permutation, IsPermutation-sym}
use Rattle.std.proofs.lemmas.List.Elements.{All-from_recursion}
use Rattle.std.proofs.lemmas.List.Kept.{AllPairs-cons, Contains-dedup, Contains-from_dedup}
use Rattle.cfg_flow.specs.Edges.{IsBefore, IsRising}

abbrev pub pair_cmp : ℕ × ℕ → ℕ × ℕ → Ordering
pair_cmp x y = ordering_then (nat_cmp x.0 y.0) (nat_cmp x.1 y.1)

pub pair_total : IsTotalOrder pair_cmp
pair_total = then_total (on_total (λ (p : ℕ × ℕ). p.0) nat_cmp_total) (on_total (λ (p : ℕ × ℕ). p.1) nat_cmp_total)

then_less : (p q : Ordering) → ordering_then p q ≡ Less → (p ≡ Less) ⊎ ((p ≡ Equal) × (q ≡ Less))
then_less Less q e = inl refl
then_less Equal q e = inr (refl, e)
then_less Greater q e = cc

less_is : (a b : ℕ) → nat_cmp a b ≡ Less → a < b
less_is a b e = by_ranked (a < b) (a ≡ b) (b < a) (nat_cmp a b) (ranked a b (nat_cmp a b) refl) (λ f h. h) (λ f h. absurd (let no : ⊥ = cc (sym e ∙ f) in no)) (λ f h. absurd (let no : ⊥ = cc (sym e ∙ f) in no))

equal_is : (a b : ℕ) → nat_cmp a b ≡ Equal → a ≡ b
equal_is a b e = by_ranked (a < b) (a ≡ b) (b < a) (nat_cmp a b) (ranked a b (nat_cmp a b) refl) (λ f h. absurd (let no : ⊥ = cc (sym e ∙ f) in no)) (λ f h. h) (λ f h. absurd (let no : ⊥ = cc (sym e ∙ f) in no))

is_before : (x y : ℕ × ℕ) → pair_cmp x y ≡ Less → IsBefore x y
is_before x y e = elim (then_less (nat_cmp x.0 y.0) (nat_cmp x.1 y.1) e) [
  | inl l ↦ inl (less_is x.0 y.0 l)
  | inr q ↦ inr (equal_is x.0 y.0 q.0, less_is x.1 y.1 q.1)
]

all_after : (x : ℕ × ℕ) (ys : List (ℕ × ℕ)) → AllByRecursion (λ y. pair_cmp x y ≡ Less) ys → AllByRecursion (IsBefore x) ys
all_after x [] a = a
all_after x (y ∷ ys) a = (is_before x y a.0, all_after x ys a.1)

pub rises : (edges : List (ℕ × ℕ)) → IsStrictlySortedBy pair_cmp edges → IsRising edges
unfolding IsStrictlySortedBy
rises [] s = λ i j d low high. absurd (omega arith)
rises (e ∷ es) s = AllPairs-cons IsBefore e es (All-from_recursion (IsBefore e) es (all_after e es s.0)) (rises es s.1)

-- Edges as code compares them: their order tells apart those that differ.
abbrev pub pair_eq : ℕ × ℕ → ℕ × ℕ → Bool
pair_eq x y = eqb x.0 y.0 && eqb x.1 y.1

equal_then : (p q : Ordering) → (is_eq p && is_eq q) ≡ is_eq (ordering_then p q)
equal_then Less q = refl
equal_then Equal q = refl
equal_then Greater q = refl

pub pair_ties : (x y : ℕ × ℕ) → pair_eq x y ≡ eq_by_cmp pair_cmp x y
pair_ties x y =
    ap (λ (b : Bool). b && eqb x.1 y.1) (unsigned_ties x.0 y.0) ∙ ap (λ (b : Bool). is_eq (nat_cmp x.0 y.0) && b) (unsigned_ties x.1 y.1) ∙ equal_then (nat_cmp x.0 y.0) (nat_cmp x.1 y.1)

both : (p q : Bool) → (p && q) ≡ true → (p ≡ true) × (q ≡ true)
both true q e = (refl, e)
both false q e = cc

pair_same : (x y : ℕ × ℕ) → pair_eq x y ≡ true → x ≡ y
pair_same x y e =
    let at = both (eqb x.0 y.0) (eqb x.1 y.1) e in
    let from : x.0 ≡ y.0 = eqb-true x.0 y.0 at.0 in
    let to : x.1 ≡ y.1 = eqb-true x.1 y.1 at.1 in
    ap (λ (v : ℕ). (v, x.1)) from ∙ ap (λ (v : ℕ). (y.0, v)) to

pair_equivalence : IsEquivalence pair_eq
pair_equivalence =
    let by = eq_by_cmp_equiv pair_total in
    record {
      refl = λ x. pair_ties x x ∙ by.refl x;
      symm = λ x y. pair_ties x y ∙ by.symm x y ∙ sym (pair_ties y x);
      congr = λ x y z e. pair_ties x z ∙ by.congr x y z (sym (pair_ties x y) ∙ e) ∙ sym (pair_ties y z);
    }

-- The same edges stand there once they were sorted and each was left there once.
pub kept : (old sorted new : List (ℕ × ℕ)) → IsPermutation old sorted → new ≡ dedup pair_eq sorted → (a b : ℕ) → Contains {X = ℕ × ℕ} new (a, b) ↔ Contains {X = ℕ × ℕ} old (a, b)
kept old sorted new p e a b = (
  λ h. Contains-permutation sorted old (a, b) (IsPermutation-sym old sorted p) (Contains-from_dedup pair_eq sorted (a, b) (subst (λ (es : List (ℕ × ℕ)). Contains es (a, b)) e h)),
  λ h. subst (λ (es : List (ℕ × ℕ)). Contains es (a, b)) (sym e) (Contains-dedup pair_equivalence pair_same sorted (a, b) (Contains-permutation old sorted (a, b) p h)),
)
