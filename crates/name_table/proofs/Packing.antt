-- Texts that stand one after another, when one is added or taken away.

use Rattle.std.proofs.Common.{◌≡◌, ◌∙◌, ◌+◌, ◌-◌, ◌<◌, ◌≤◌, ◌^◌, ℕ, zero, suc, sym, ap}
use Rattle.std.proofs.Common.{refl, arith, add-one}
use Rattle.std.proofs.Common.{List, [], ◌∷◌, ◌++◌, length, map, slice_get, take, drop}
use Rattle.std.proofs.Common.{length-append}
use Rattle.std.specs.Prelude.{slice_range, ◌⊎◌, true, false, Option, Some, None, IsSome}
use Rattle.std.specs.Option.{option_to_list}
use Rattle.std.proofs.Common.{inl, inr}
use Rattle.std.specs.List.{range_with_len}
use Rattle.std.proofs.Math.Seq.{take-length, drop-append_seam, get_or-append_seam}
use Rattle.std.proofs.lemmas.List.{take-append-le, drop-append-le, take-append-drop}
use Rattle.std.proofs.lemmas.List.{length-take-le, get_or_append_left, length-drop}
use Rattle.std.proofs.lemmas.List.{nil_from_length}
use Rattle.std.proofs.lemmas.List.FromFn.{map-range_with_len_more, get_or-map-range_with_len}
use Rattle.std.proofs.lemmas.List.FromFn.{length-map-range_with_len}
use Rattle.std.proofs.lemmas.Option.{slice_get-get_or}
use Rattle.std.proofs.lemmas.Bool.{cases_lt}
use Rattle.name_table.specs.Texts.{begin_of, text_at, texts_of, AreEnds}

pub length-texts_of : (bytes ends : List ℕ) → length (texts_of bytes ends) ≡ length ends
unfolding texts_of
length-texts_of bytes ends = length-map-range_with_len (text_at bytes ends) 0 (length ends)

-- a number below the count of the texts is that of an end
pub within_ends : (bytes ends : List ℕ) (texts : List (List ℕ)) (n : ℕ) →
    texts_of bytes ends ≡ texts → n < length texts → n < length ends
within_ends bytes ends texts n is inside =
    rw (length-texts_of bytes ends) at (rw (sym is) at inside)

-- a number has the text that stands at its position
pub slice_get-texts_of : (bytes ends : List ℕ) (n : ℕ) → n < length ends →
    slice_get (texts_of bytes ends) n ≡ Some (text_at bytes ends n)
unfolding texts_of
slice_get-texts_of bytes ends n inside =
    slice_get-get_or (map (text_at bytes ends) (range_with_len 0 (length ends))) n []
    (rw (length-map-range_with_len (text_at bytes ends) 0 (length ends)) inside)
    ∙ ap Some (get_or-map-range_with_len (text_at bytes ends) 0 (length ends) n n [] inside
    (omega arith))

begin_of-append : (ends more : List ℕ) (n : ℕ) → n ≤ length ends →
    begin_of (ends ++ more) n ≡ begin_of ends n
begin_of-append ends more zero inside = refl
begin_of-append ends more (suc n) inside = get_or_append_left ends more 0 n (omega arith)

slice_range-append : (xs ys : List ℕ) (a b : ℕ) → a ≤ b → b ≤ length xs →
    slice_range (xs ++ ys) a b ≡ slice_range xs a b
slice_range-append xs ys a b forward within =
    ap (take (b - a)) (drop-append-le a xs ys (omega arith))
    ∙ take-append-le (b - a) (drop a xs) ys (omega (arith, length-drop a xs))

begin_of-last : (ends : List ℕ) (end : ℕ) → begin_of (ends ++ end ∷ []) (suc (length ends)) ≡ end
begin_of-last ends end = get_or-append_seam ends end [] 0

-- a text ends within the bytes
pub ends_within : (bytes ends : List ℕ) (n : ℕ) → AreEnds bytes ends → n < length ends →
    (begin_of ends n ≤ begin_of ends (suc n)) × (begin_of ends (suc n) ≤ length bytes)
ends_within bytes ends n are inside = (
  are.ordered n (suc n) (omega arith) (omega arith),
  rw (sym are.whole) (are.ordered (suc n) (length ends) (omega arith) (omega arith)),
)

-- what the bytes from where a text begins to where the next one does are
pub read_text : (bytes ends : List ℕ) (texts : List (List ℕ)) (n begin end : ℕ) →
    texts_of bytes ends ≡ texts → n < length texts → AreEnds bytes ends →
    begin ≡ begin_of ends n → end ≡ begin_of ends (n + 1) →
    (begin ≤ end) × (end ≤ length bytes)
    × (slice_get texts n ≡ Some (slice_range bytes begin end))
read_text bytes ends texts n begin end is below are first second =
    let inside = within_ends bytes ends texts n is below in
    let next : end ≡ begin_of ends (suc n) = second ∙ ap (begin_of ends) (add-one n) in
    let within = ends_within bytes ends n are inside in
    rw (first, next) (within.0, within.1, rw (sym is) (slice_get-texts_of bytes ends n inside))

-- a text that is not the last one stays
text_at-append : (bytes more ends : List ℕ) (end n : ℕ) → AreEnds bytes ends → n < length ends →
    text_at (bytes ++ more) (ends ++ end ∷ []) n ≡ text_at bytes ends n
text_at-append bytes more ends end n are inside =
    let within = ends_within bytes ends n are inside in
    ap (λ b. slice_range (bytes ++ more) b (begin_of (ends ++ end ∷ []) (suc n)))
    (begin_of-append ends (end ∷ []) n (omega arith))
    ∙ ap (λ e. slice_range (bytes ++ more) (begin_of ends n) e)
    (begin_of-append ends (end ∷ []) (suc n) (omega arith))
    ∙ slice_range-append bytes more (begin_of ends n) (begin_of ends (suc n)) within.0 within.1

-- the last text
text_at-last : (bytes text ends : List ℕ) (end : ℕ) → AreEnds bytes ends →
    end ≡ length bytes + length text →
    text_at (bytes ++ text) (ends ++ end ∷ []) (length ends) ≡ text
text_at-last bytes text ends end are is =
    let long : end - length bytes ≡ length text = omega arith in
    ap (λ b. slice_range (bytes ++ text) b (begin_of (ends ++ end ∷ []) (suc (length ends))))
    (begin_of-append ends (end ∷ []) (length ends) (omega arith) ∙ are.whole)
    ∙ ap (λ e. slice_range (bytes ++ text) (length bytes) e) (begin_of-last ends end)
    ∙ ap (λ n. take n (drop (length bytes) (bytes ++ text))) long
    ∙ ap (take (length text)) (drop-append_seam bytes text)
    ∙ take-length text

same_over : (f g : ℕ → List ℕ) (a n : ℕ) → ((i : ℕ) → a ≤ i → i < a + n → f i ≡ g i) →
    map f (range_with_len a n) ≡ map g (range_with_len a n)
same_over f g a zero same = refl
same_over f g a (suc n) same =
    let first = same a (omega arith) (omega arith) in
    let rest = same_over f g (a + 1) n (λ i low high. same i (omega arith) (omega arith)) in cc

length_more : (ends : List ℕ) (end : ℕ) → length (ends ++ end ∷ []) ≡ length ends + 1
length_more ends end = length-append ends (end ∷ [])

-- a text is added
pub texts_of-push : (bytes text ends : List ℕ) (end : ℕ) → AreEnds bytes ends →
    end ≡ length bytes + length text →
    texts_of (bytes ++ text) (ends ++ end ∷ []) ≡ texts_of bytes ends ++ text ∷ []
unfolding texts_of
texts_of-push bytes text ends end are is =
    let each = text_at (bytes ++ text) (ends ++ end ∷ []) in
    ap (λ n. map each (range_with_len 0 n)) (length_more ends end)
    ∙ map-range_with_len_more each 0 (length ends) (length ends) (omega arith)
    ∙ (let before = same_over each (text_at bytes ends) 0 (length ends)
    (λ i low high. text_at-append bytes text ends end i are (omega arith)) in
    let last = text_at-last bytes text ends end are is in
    cc)

-- where each text ends when one was added
pub AreEnds-push : (bytes text ends : List ℕ) (end : ℕ) → AreEnds bytes ends →
    end ≡ length bytes + length text → length ends + 1 < 2 ^ 32 →
    AreEnds (bytes ++ text) (ends ++ end ∷ [])
AreEnds-push bytes text ends end are is room = record {
  ordered = λ n m low high. ordered n m low (rw (length_more ends end) at high)
      (cases_lt (length ends) m);
  whole = ap (begin_of (ends ++ end ∷ [])) (length_more ends end ∙ add-one (length ends))
      ∙ begin_of-last ends end ∙ is ∙ sym (length-append bytes text);
  few = rw (length_more ends end) room;
} where
  past : (n : ℕ) → n ≤ suc (length ends) → (length ends < n) ⊎ (n ≤ length ends) →
      begin_of (ends ++ end ∷ []) n ≤ end
  past n low (inl beyond) =
      let last : n ≡ suc (length ends) = omega arith in
      rw (last, begin_of-last ends end) (omega arith)
  past n low (inr inside) =
      let same = begin_of-append ends (end ∷ []) n inside in
      let old = are.ordered n (length ends) inside (omega arith) in
      let whole = are.whole in omega arith

  ordered : (n m : ℕ) → n ≤ m → m ≤ length ends + 1 →
      (length ends < m) ⊎ (m ≤ length ends) →
      begin_of (ends ++ end ∷ []) n ≤ begin_of (ends ++ end ∷ []) m
  ordered n m low high (inl beyond) =
      let last : m ≡ suc (length ends) = omega arith in
      rw (last, begin_of-last ends end) (past n (omega arith) (cases_lt (length ends) n))
  ordered n m low high (inr inside) =
      let first = begin_of-append ends (end ∷ []) n (omega arith) in
      let second = begin_of-append ends (end ∷ []) m inside in
      let old = are.ordered n m low inside in omega arith

-- where the last text begins
last_begins : (bytes ends : List ℕ) (end : ℕ) → AreEnds bytes (ends ++ end ∷ []) →
    (end ≡ length bytes) × (begin_of ends (length ends) ≤ length bytes)
last_begins bytes ends end are =
    let grown = length_more ends end in
    let is : end ≡ length bytes = sym (begin_of-last ends end)
    ∙ ap (begin_of (ends ++ end ∷ [])) (sym (add-one (length ends)) ∙ sym grown) ∙ are.whole in
    let same = begin_of-append ends (end ∷ []) (length ends) (omega arith) in
    let last = begin_of-last ends end in
    let old = are.ordered (length ends) (suc (length ends)) (omega arith) (omega arith) in
    (is, omega arith)

-- where each text ends when the last one was taken away
pub AreEnds-pop : (bytes ends : List ℕ) (end : ℕ) → AreEnds bytes (ends ++ end ∷ []) →
    AreEnds (take (begin_of ends (length ends)) bytes) ends
AreEnds-pop bytes ends end are = record {
  ordered = λ n m low high.
      let grown = length_more ends end in
      let first = begin_of-append ends (end ∷ []) n (omega arith) in
      let second = begin_of-append ends (end ∷ []) m high in
      let old = are.ordered n m low (omega arith) in omega arith;
  whole = sym (length-take-le (begin_of ends (length ends)) bytes
      (last_begins bytes ends end are).1);
  few = let grown = length_more ends end in let old = are.few in omega arith;
}

-- the last text is taken away
pub texts_of-pop : (bytes ends : List ℕ) (end : ℕ) → AreEnds bytes (ends ++ end ∷ []) →
    texts_of bytes (ends ++ end ∷ [])
    ≡ texts_of (take (begin_of ends (length ends)) bytes) ends
    ++ drop (begin_of ends (length ends)) bytes ∷ []
texts_of-pop bytes ends end are =
    let begin = begin_of ends (length ends) in
    let parts = last_begins bytes ends end are in
    ap (λ bs. texts_of bs (ends ++ end ∷ [])) (sym (take-append-drop begin bytes))
    ∙ texts_of-push (take begin bytes) (drop begin bytes) ends end
    (AreEnds-pop bytes ends end are)
    (parts.0 ∙ ap length (sym (take-append-drop begin bytes))
    ∙ length-append (take begin bytes) (drop begin bytes))

-- the bytes of the texts before the last one
pub parts_of-pop : (bytes old ends cut : List ℕ) (last : Option ℕ) (texts : List (List ℕ)) →
    AreEnds bytes old → texts_of bytes old ≡ texts → ¬ (texts ≡ []) →
    old ≡ ends ++ option_to_list last → (0 < length old → IsSome last) →
    cut ≡ take (begin_of ends (length ends)) bytes →
    AreEnds cut ends × ((text : List ℕ) × (texts ≡ texts_of cut ends ++ text ∷ []))
parts_of-pop bytes old ends cut (Some end) texts are is some splits known cuts =
    let whole : AreEnds bytes (ends ++ end ∷ []) = rw splits at are in
    rw cuts (
      AreEnds-pop bytes ends end whole,
      (
        drop (begin_of ends (length ends)) bytes,
        sym is ∙ ap (texts_of bytes) splits ∙ texts_of-pop bytes ends end whole,
      ),
    )
parts_of-pop bytes old ends cut None texts are is some splits known cuts =
    absurd (some (nil_from_length texts (ap length (sym is) ∙ length-texts_of bytes old
    ∙ not_above (length old) known)))
  where
    not_above : (n : ℕ) → (0 < n → false ≡ true) → n ≡ 0
    not_above zero above = refl
    not_above (suc n) above = let never = above (omega arith) in cc
