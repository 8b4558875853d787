-- Numbers that are positions in a list of spellings.
use Rattle.std.proofs.Common.{◌≡◌, ℕ, suc, zero, ◌+◌, ◌==◌, ◌&&◌, ◌||◌, not, Bool, true, false, List, [], ◌∷◌, Option, Some, None, slice_get, refl, arith}
use Rattle.std.specs.List.{list_all}
use Rattle.std.proofs.lemmas.Bool.{and_parts, eqb-true, false≢true}
use Rattle.std.proofs.lemmas.List.Sums.{AllPass-from_list_all}
use Rattle.std.proofs.lemmas.Option.{get_or_from_slice_get, slice_get_within}
use Rattle.c_lexer.specs.Entries.{Entry, HavePositions}

-- whether each spelling has its position for its number, where the first stands at `start`
abbrev pub are_positions : ℕ → List Entry → Bool
are_positions start [] = true
are_positions start (entry ∷ rest) = (entry.is_alternative || (entry.number == start)) && are_positions (start + 1) rest

-- then it does
position_of : (start : ℕ) (entries : List Entry) → are_positions start entries ≡ true → (at : ℕ) (entry : Entry) → slice_get entries at ≡ Some entry → entry.is_alternative ≡ false → entry.number ≡ start + at
position_of start [] h at entry e plain = cc
position_of start (first ∷ rest) h zero entry e plain =
    let p = and_parts (first.is_alternative || (first.number == start)) (are_positions (start + 1) rest) h in
    let same : first ≡ entry = cc in
    let number = eqb-true _ _ (rw (same, plain) at p.0) in
    omega (arith, number)
position_of start (first ∷ rest) h (suc at) entry e plain =
    let p = and_parts (first.is_alternative || (first.number == start)) (are_positions (start + 1) rest) h in
    let number = position_of (start + 1) rest p.1 at entry e plain in
    omega (arith, number)

-- whether a spelling stands there that is no alternative one
abbrev is_plain : Option Entry → Bool
is_plain None = false
is_plain (Some entry) = not entry.is_alternative

-- then one does
plain_is : (found : Option Entry) → is_plain found ≡ true → (entry : Entry) × (found ≡ Some entry) × (entry.is_alternative ≡ false)
plain_is None h = absurd (false≢true h)
plain_is (Some entry) h = (entry, refl, no_true entry.is_alternative h)
  where
    no_true : (b : Bool) → not b ≡ true → b ≡ false
    no_true true h = absurd (false≢true h)
    no_true false h = refl

-- whether at the number of each alternative spelling stands one that is none
abbrev pub stand_for : List Entry → List Entry → Bool
stand_for entries rest = list_all (λ entry. not entry.is_alternative || is_plain (slice_get entries entry.number)) rest

-- a list that passes both tests has its positions for numbers
pub have_positions : (entries : List Entry) → are_positions 0 entries ≡ true → stand_for entries entries ≡ true → HavePositions entries
have_positions entries positions others = record {
  spellings = λ at entry e plain. let number = position_of 0 entries positions at entry e plain in omega (arith, number);
  alternatives = λ at entry e alternative.
      let passed = AllPass-from_list_all (λ entry. not entry.is_alternative || is_plain (slice_get entries entry.number)) entries others at entry (slice_get_within entries at entry e) in
      let here = rw (get_or_from_slice_get entries at entry entry e) at passed in
      plain_is _ (rw alternative at here);
}
