-- Names that are added to a list where they are first mentioned.
use Rattle.std.proofs.Common.{◌≡◌, ◌⊎◌, ℕ, zero, suc, List, [], ◌∷◌, ◌++◌, Some, length, refl, subst, sym, arith, inl, inr}
use Rattle.std.specs.List.{Contains, slice_get}
use Rattle.std.proofs.lemmas.Option.{get_or_from_slice_get, slice_get_within}
use Rattle.name_table.specs.Names.{AddsName}
use Rattle.line_marks.specs.Presumed.{AddsNames}
use Rattle.line_marks.specs.Naming.{Mentions}

-- A name that stands at a position is in the list.
pub contains_at : (a : List (List ℕ)) (i : ℕ) (x : List ℕ) → slice_get a i ≡ Some x → Contains a x
contains_at a i x h = (i, slice_get_within a i x h, get_or_from_slice_get a i x x h)

-- What stands in a list with one more name.
pub get_push : (a : List (List ℕ)) (y : List ℕ) (i : ℕ) (x : List ℕ) → slice_get (a ++ y ∷ []) i ≡ Some x → (slice_get a i ≡ Some x) ⊎ ((i ≡ length a) × (x ≡ y))
get_push [] y zero x h = inr (refl, cc)
get_push [] y (suc i) x h = absurd (cc)
get_push (z ∷ a) y zero x h = inl h
get_push (z ∷ a) y (suc i) x h = elim (get_push a y i x h) [
  | inl there ↦ inl there
  | inr last ↦ inr (let e = last.0 in omega arith, last.1)
]

pub get_append : (xs : List (List ℕ)) (y : List ℕ) (n : ℕ) (x : List ℕ) → slice_get xs n ≡ Some x → slice_get (xs ++ y ∷ []) n ≡ Some x
get_append [] y n x h = absurd (cc)
get_append (z ∷ xs) y zero x h = h
get_append (z ∷ xs) y (suc n) x h = get_append xs y n x h

-- A name that is new adds itself.
pub new_name : (names : List (List ℕ)) (name : List ℕ) → ¬ Contains names name →
    AddsNames names (name ∷ []) (names ++ name ∷ [])
new_name names name fresh = AddsNames.new name fresh AddsNames.none

-- A name that stands at a position is known.
pub known_name : (names : List (List ℕ)) (name : List ℕ) (position : ℕ) →
    slice_get names position ≡ Some name → AddsNames names (name ∷ []) names
known_name names name position at = AddsNames.known name (contains_at names position name at) AddsNames.none

-- Names that are added after others.
pub adds_append : (a b c xs ys : List (List ℕ)) → AddsNames a xs b → AddsNames b ys c → AddsNames a (xs ++ ys) c
adds_append a b c xs ys AddsNames.none h = h
adds_append a b c xs ys (AddsNames.known {names = zs} name there rest) h = AddsNames.known name there (adds_append a b c zs ys rest h)
adds_append a b c xs ys (AddsNames.new {names = zs} name fresh rest) h = AddsNames.new name fresh (adds_append (a ++ name ∷ []) b c zs ys rest h)

-- A name keeps its position.
pub adds_keep : (a b xs : List (List ℕ)) (n : ℕ) (x : List ℕ) → AddsNames a xs b → slice_get a n ≡ Some x → slice_get b n ≡ Some x
adds_keep a b xs n x AddsNames.none h = h
adds_keep a b xs n x (AddsNames.known {names = zs} name there rest) h = adds_keep a b zs n x rest h
adds_keep a b xs n x (AddsNames.new {names = zs} name fresh rest) h = adds_keep (a ++ name ∷ []) b zs n x rest (get_append a name n x h)

-- The last name of a list stands behind the others.
pub get_last : (names : List (List ℕ)) (name : List ℕ) →
    slice_get (names ++ name ∷ []) (length names) ≡ Some name
get_last [] name = refl
get_last (first ∷ names) name = get_last names name

-- A mention of a name that stands at a position.
pub mentions_known : (names : List (List ℕ)) (name : List ℕ) (position : ℕ) →
    slice_get names position ≡ Some name → Mentions names names name position
mentions_known names name position at = record {
  added = known_name names name position at;
  stands = at;
}

-- A mention of a name that is new.
pub mentions_new : (names more : List (List ℕ)) (name : List ℕ) (position : ℕ) →
    AddsName names more name position → ¬ Contains names name → Mentions names more name position
mentions_new names more name position adds fresh = record {
  added = subst (λ (all : List (List ℕ)). AddsNames names (name ∷ []) all) (sym adds.added) (new_name names name fresh);
  stands = rw (adds.added, adds.number_is) (get_last names name);
}
