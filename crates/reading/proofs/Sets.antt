-- Sets of terminals that are compared by computing.

use Rattle.std.proofs.Common.{◌⊎◌, inl, inr, ◌≡◌, ℕ, Bool, true, false, not, ◌==◌, ◌||◌, ◌&&◌, List, [], ◌∷◌, ◌++◌, refl, sym, subst, eqb-true, eq-eqb}
use Rattle.reading.specs.Terminals.{has, is_within, are_disjoint}

-- A hypothesis that cannot be.
pub never : {X : Type 0} → false ≡ true → X
never e = absurd (cc)

pub both_left : (a b : Bool) → (a && b) ≡ true → a ≡ true
both_left true b e = refl
both_left false b e = e

pub both_right : (a b : Bool) → (a && b) ≡ true → b ≡ true
both_right true b e = e
both_right false b e = never e

pub both : (a b : Bool) → a ≡ true → b ≡ true → (a && b) ≡ true
both a b e f = rw (e, f) refl

not_true : (a : Bool) → not a ≡ true → a ≡ true → ⊥
not_true true e f = never e
not_true false e f = never f

within_at : (first : Bool) (terminal n : ℕ) (set other : List ℕ) → (terminal == n) ≡ first →
    has other terminal ≡ true → (has set n ≡ true → has other n ≡ true) →
    (first || has set n) ≡ true → has other n ≡ true
within_at true terminal n set other e h k g = subst (λ m. has other m ≡ true) (eqb-true terminal n e) h
within_at false terminal n set other e h k g = k g

pub within : (set other : List ℕ) → is_within set other ≡ true → (n : ℕ) → has set n ≡ true →
    has other n ≡ true
within [] other h n g = never g
within (terminal ∷ set) other h n g =
    within_at (terminal == n) terminal n set other refl (both_left (has other terminal) _ h)
    (within set other (both_right (has other terminal) _ h) n) g

disjoint_at : (first : Bool) (terminal n : ℕ) (set other : List ℕ) → (terminal == n) ≡ first →
    not (has other terminal) ≡ true → (has set n ≡ true → has other n ≡ true → ⊥) →
    (first || has set n) ≡ true → has other n ≡ true → ⊥
disjoint_at true terminal n set other e h k g l =
    not_true (has other terminal) h (subst (λ m. has other m ≡ true) (sym (eqb-true terminal n e)) l)
disjoint_at false terminal n set other e h k g l = k g l

pub disjoint : (set other : List ℕ) → are_disjoint set other ≡ true → (n : ℕ) → has set n ≡ true →
    has other n ≡ true → ⊥
disjoint [] other h n g l = never g
disjoint (terminal ∷ set) other h n g l =
    disjoint_at (terminal == n) terminal n set other refl (both_left (not (has other terminal)) _ h)
    (disjoint set other (both_right (not (has other terminal)) _ h) n) g l

has_first : (terminal : ℕ) (set : List ℕ) → has (terminal ∷ set) terminal ≡ true
has_first terminal set = rw (eq-eqb terminal terminal refl) refl

or_true : (a b : Bool) → b ≡ true → (a || b) ≡ true
or_true true b e = refl
or_true false b e = e

-- A part of a set is disjoint from what the set is disjoint from.
not_in_part : (part set : List ℕ) → is_within part set ≡ true → (n : ℕ) (b : Bool) → has part n ≡ b → not (has set n) ≡ true → not b ≡ true
not_in_part part set h n true e f = absurd (not_true (has set n) f (within part set h n e))
not_in_part part set h n false e f = refl

pub disjoint_from_part : (other part set : List ℕ) → is_within part set ≡ true → are_disjoint other set ≡ true → are_disjoint other part ≡ true
disjoint_from_part [] part set h e = refl
disjoint_from_part (n ∷ other) part set h e =
    both _ _ (not_in_part part set h n (has part n) refl (both_left (not (has set n)) _ e))
    (disjoint_from_part other part set h (both_right (not (has set n)) _ e))

-- Elements that are not in a set, one by one.
none_in : (set other : List ℕ) → ((n : ℕ) → has set n ≡ true → has other n ≡ true → ⊥) → are_disjoint set other ≡ true
none_in [] other h = refl
none_in (n ∷ set) other h =
    both _ _ (not_both (has other n) (h n (has_first n set)))
    (none_in set other (λ m e. h m (or_true (n == m) (has set m) e)))
  where
    not_both : (b : Bool) → (b ≡ true → ⊥) → not b ≡ true
    not_both true k = absurd (k refl)
    not_both false k = refl

pub disjoint_part : (part set other : List ℕ) → is_within part set ≡ true → are_disjoint set other ≡ true → are_disjoint part other ≡ true
disjoint_part part set other h e = none_in part other (λ n f g. disjoint set other e n (within part set h n f) g)

-- A set is within itself, and within one that has more.
within_more : (terminal : ℕ) (set other : List ℕ) → is_within set other ≡ true →
    is_within set (terminal ∷ other) ≡ true
within_more terminal [] other h = refl
within_more terminal (n ∷ set) other h =
    both _ _ (or_true (terminal == n) (has other n) (both_left (has other n) _ h))
    (within_more terminal set other (both_right (has other n) _ h))

pub within_itself : (set : List ℕ) → is_within set set ≡ true
within_itself [] = refl
within_itself (terminal ∷ set) =
    both _ _ (has_first terminal set) (within_more terminal set set (within_itself set))

-- Nothing is in both a set and the empty one.
pub disjoint_from_none : (set : List ℕ) → are_disjoint set [] ≡ true
disjoint_from_none [] = refl
disjoint_from_none (terminal ∷ set) = disjoint_from_none set

-- A set is within a union with it.
pub within_left : (set other : List ℕ) → is_within set (set ++ other) ≡ true
within_left [] other = refl
within_left (terminal ∷ set) other =
    both _ _ (has_first terminal (set ++ other)) (within_more terminal set (set ++ other) (within_left set other))

pub within_right : (set other : List ℕ) → is_within other (set ++ other) ≡ true
within_right [] other = within_itself other
within_right (terminal ∷ set) other = within_more terminal other (set ++ other) (within_right set other)

in_first_or : (a b c d : Bool) → (b ≡ true → (c ≡ true) ⊎ (d ≡ true)) → (a || b) ≡ true → ((a || c) ≡ true) ⊎ (d ≡ true)
in_first_or true b c d later h = inl refl
in_first_or false b c d later h = later h

-- What is in a union is in one of its sets.
pub in_union : (set other : List ℕ) (n : ℕ) → has (set ++ other) n ≡ true → (has set n ≡ true) ⊎ (has other n ≡ true)
in_union [] other n h = inr h
in_union (m ∷ set) other n h = in_first_or (m == n) (has (set ++ other) n) (has set n) (has other n) (in_union set other n) h
