-- Names that differ, and the set of those so far.

use Rattle.std.proofs.Common.{◌≡◌, ℕ, ◌+◌, ◌<◌, Bool, true, false, cond, ◌||◌, List, [], ◌∷◌, length, map, take, get_or, Some, slice_get, refl, sym, ap, ◌∙◌, subst, arith, length-take, get_or-take}
use Rattle.std.specs.List.{IsDistinct, list_any}
use Rattle.std.specs.Str.{bytes_eq}
use Rattle.std.specs.Bool.{one_answer}
use Rattle.std.specs.Cmp.{IsEquivalence}
use Rattle.std.specs.Borrow.{Bor}
use Rattle.std.proofs.lemmas.Slice.Eq.{bytes_eq-Decides}
use Rattle.std.proofs.lemmas.Map.Keys.{IsDistinct-push, apart_from_distinct}
use Rattle.std.proofs.lemmas.List.Folds.{Any-from_list_any, list_any-append}
use Rattle.std.proofs.lemmas.List.{get_or-map, take_more}
use Rattle.std.proofs.lemmas.Option.{get_or_from_slice_get, slice_get-get_or, slice_get_within}
use Rattle.first_grammar.specs.FirstUnit.{Differ}

-- ---- Equal bytes

flip : (x y : List ℕ) → bytes_eq x y ≡ bytes_eq y x
flip x y =
    let there = bytes_eq-Decides y x in
    one_answer {P = x ≡ y} (bytes_eq x y) (bytes_eq y x) (bytes_eq-Decides x y)
    ((λ h. sym (there.0 h)), λ e. there.1 (sym e))

bytes_laws : IsEquivalence bytes_eq
bytes_laws = record {
  refl = λ x. (bytes_eq-Decides x x).1 refl;
  symm = flip;
  congr = λ x y z e. ap (λ (v : List ℕ). bytes_eq v z) ((bytes_eq-Decides x y).0 e);
}

-- ---- One more name

one_more : (b old : Bool) → cond b true old ≡ (old || (b || false))
one_more true true = refl
one_more true false = refl
one_more false true = refl
one_more false false = refl

pub seen_more : (names : List (List ℕ)) (i : ℕ) (q : List ℕ) (new old : Bool) → i < length names →
    new ≡ cond (bytes_eq (get_or names i []) q) true old → old ≡ list_any (bytes_eq q) (take i names) →
    new ≡ list_any (bytes_eq q) (take (i + 1) names)
seen_more names i q new old l is was =
    let key = get_or names i [] in
    let more = take_more names i [] l in
    is ∙ (one_more (bytes_eq key q) old ∙
    (ap (λ (v : Bool). v || (bytes_eq key q || false)) was ∙
    (ap (λ (v : Bool). list_any (bytes_eq q) (take i names) || (v || false)) (flip key q) ∙
    (sym (list_any-append (bytes_eq q) (take i names) (key ∷ [])) ∙
    sym (ap (list_any (bytes_eq q)) more)))))

pub distinct_more : (names : List (List ℕ)) (i : ℕ) → i < length names → IsDistinct bytes_eq (take i names) →
    list_any (bytes_eq (get_or names i [])) (take i names) ≡ false → IsDistinct bytes_eq (take (i + 1) names)
distinct_more names i l h absent =
    subst (IsDistinct bytes_eq) (sym (take_more names i [] l))
    (IsDistinct-push bytes_laws (take i names) (get_or names i []) h absent)

-- ---- What the answer means

pub clash : (names : List (List ℕ)) (i : ℕ) → i < length names →
    list_any (bytes_eq (get_or names i [])) (take i names) ≡ true → Differ names → ⊥
clash names i l found differ =
    let any = Any-from_list_any (bytes_eq (get_or names i [])) (take i names) found in
    let k = any.0 in
    let short : k < i = omega (arith, any.2, length-take i names) in
    let is : get_or (take i names) k any.1 ≡ get_or names k any.1 = get_or-take i names k any.1 short in
    let same : get_or names i [] ≡ any.1 = (bytes_eq-Decides (get_or names i []) any.1).0 any.4 in
    let here = slice_get-get_or names i [] l in
    let within : k < length names = omega arith in
    let there = slice_get-get_or names k any.1 within in
    let both : get_or names k any.1 ≡ get_or names i [] = sym is ∙ (any.3 ∙ sym same) in
    let e : k ≡ i = differ k i (get_or names i []) (there ∙ ap (λ (v : List ℕ). Some v) both) here in
    absurd (omega arith)

apart : (names : List (List ℕ)) (i j : ℕ) (name : List ℕ) → IsDistinct bytes_eq names → i < j →
    slice_get names i ≡ Some name → slice_get names j ≡ Some name → ⊥
apart names i j name h below at_i at_j =
    let within = slice_get_within names j name at_j in
    let different = apart_from_distinct bytes_eq names i j [] h below within in
    let first = get_or_from_slice_get names i name [] at_i in
    let second = get_or_from_slice_get names j name [] at_j in
    let same : bytes_eq (get_or names i []) (get_or names j []) ≡ true =
    (bytes_eq-Decides (get_or names i []) (get_or names j [])).1 (first ∙ sym second) in
    absurd (cc (same, different))

pub differ_from : (names : List (List ℕ)) → IsDistinct bytes_eq names → Differ names
differ_from names h i j name at_i at_j =
    let low : i < j → ⊥ = λ b. apart names i j name h b at_i at_j in
    let high : j < i → ⊥ = λ b. apart names j i name h b at_j at_i in
    grind (arith, low, high)

-- ---- The keys of a set

pub key_is : (names : List (Bor (List ℕ))) (i : ℕ) (d : Bor (List ℕ)) → i < length names →
    (get_or names i d).now ≡ get_or (map (λ name. name.now) names) i []
key_is names i d l = sym (get_or-map (λ (name : Bor (List ℕ)). name.now) names i d [] l)
