-- The items at positions of a list.
use Rattle.std.proofs.Common.{◌≡◌, ℕ, zero, suc, ◌<◌, ◌≤◌, List, [], ◌∷◌, length, map, slice_index, Option, Some, None, refl, ap, sym, ◌∙◌, subst, arith}
use Rattle.std.specs.List.{All, cons_option, filter_map, slice_get}
use Rattle.std.specs.Option.{option_map}
use Rattle.std.proofs.lemmas.List.Elements.{All-cons, All-nil}
use Rattle.std.proofs.lemmas.Option.{get_or_from_slice_get, slice_get-map, slice_get_within}
use Rattle.line_marks.specs.Kept.{ArePositionsIn, items_at}

-- An item stands at each position inside the list.
item_here : {A : Type 0} (items : List A) (position : ℕ) → position < length items → (item : A) × (slice_get items position ≡ Some item)
item_here [] position inside = absurd (omega arith)
item_here (x ∷ items) zero inside = (x, refl)
item_here (x ∷ items) (suc position) inside = item_here items position (omega arith)

-- The item at the first position, and the others.
pub items_at-cons : {A : Type 0} (items : List A) (position : ℕ) (positions : List ℕ) (item : A) → slice_get items position ≡ Some item →
    items_at items (position ∷ positions) ≡ item ∷ items_at items positions
unfolding items_at
items_at-cons items position positions item is = ap (λ first. cons_option first (filter_map (slice_get items) positions)) is

inside_later : {A : Type 0} (items : List A) (position : ℕ) (positions : List ℕ) → ArePositionsIn items (position ∷ positions) → ArePositionsIn items positions
inside_later items position positions inside = λ k d within. inside (suc k) d (omega arith)

-- There is one for each position.
pub length-items_at : {A : Type 0} (items : List A) (positions : List ℕ) → ArePositionsIn items positions → length (items_at items positions) ≡ length positions
unfolding items_at
length-items_at items [] inside = refl
length-items_at items (position ∷ positions) inside =
    let first = item_here items position (inside 0 0 (omega arith)) in
    let one_more = ap length (items_at-cons items position positions first.0 first.1) in
    let rest = length-items_at items positions (inside_later items position positions inside) in
    omega (arith, one_more, rest)

-- That of a number is the item at the position of this number.
pub slice_get-items_at : {A : Type 0} (items : List A) (positions : List ℕ) (number : ℕ) → ArePositionsIn items positions → number < length positions →
    slice_get (items_at items positions) number ≡ slice_get items (slice_index positions number)
slice_get-items_at items [] number inside within = absurd (omega arith)
slice_get-items_at items (position ∷ positions) zero inside within =
    let first = item_here items position (inside 0 0 (omega arith)) in
    ap (λ all. slice_get all zero) (items_at-cons items position positions first.0 first.1) ∙ sym first.1
slice_get-items_at items (position ∷ positions) (suc number) inside within =
    let first = item_here items position (inside 0 0 (omega arith)) in
    ap (λ all. slice_get all (suc number)) (items_at-cons items position positions first.0 first.1) ∙
    slice_get-items_at items positions number (inside_later items position positions inside) (omega arith)

-- There is none of a greater number.
pub slice_get-items_at_end : {A : Type 0} (items : List A) (positions : List ℕ) (number : ℕ) → ArePositionsIn items positions → length positions ≤ number →
    slice_get (items_at items positions) number ≡ None
unfolding items_at
slice_get-items_at_end items [] number inside past = refl
slice_get-items_at_end items (position ∷ positions) zero inside past = absurd (omega arith)
slice_get-items_at_end items (position ∷ positions) (suc number) inside past =
    let first = item_here items position (inside 0 0 (omega arith)) in
    ap (λ all. slice_get all (suc number)) (items_at-cons items position positions first.0 first.1) ∙
    slice_get-items_at_end items positions number (inside_later items position positions inside) (omega arith)

map-cons_option : {A B : Type 0} (f : A → B) (first : Option A) (items : List A) → map f (cons_option first items) ≡ cons_option (option_map f first) (map f items)
map-cons_option f None items = refl
map-cons_option f (Some x) items = refl

-- What is made of each item is made of the items at the positions.
pub map-items_at : {A B : Type 0} (f : A → B) (items : List A) (positions : List ℕ) → map f (items_at items positions) ≡ items_at (map f items) positions
unfolding items_at
map-items_at f items [] = refl
map-items_at f items (position ∷ positions) =
    map-cons_option f (slice_get items position) (filter_map (slice_get items) positions) ∙
    (ap (λ rest. cons_option (option_map f (slice_get items position)) rest) (map-items_at f items positions) ∙
    ap (λ first. cons_option first (filter_map (slice_get (map f items)) positions)) (sym (slice_get-map f items position)))

module _ {A : Type 0} (P : A → Type 0) where
  all_get : (items : List A) (position : ℕ) (item : A) → All P items → slice_get items position ≡ Some item → P item
  all_get items position item all is =
      subst P (get_or_from_slice_get items position item item is) (all position item (slice_get_within items position item is))

  all_cons : (first : Option A) (items : List A) → ((item : A) → first ≡ Some item → P item) → All P items → All P (cons_option first items)
  all_cons None items here all = all
  all_cons (Some item) items here all = All-cons P item items (here item refl) all

  -- What holds of each item holds of the items at the positions.
  pub All-items_at : (items : List A) (positions : List ℕ) → All P items → All P (items_at items positions)
  unfolding items_at
  All-items_at items [] all = All-nil P
  All-items_at items (position ∷ positions) all =
      all_cons (slice_get items position) (filter_map (slice_get items) positions) (λ item is. all_get items position item all is) (All-items_at items positions all)
