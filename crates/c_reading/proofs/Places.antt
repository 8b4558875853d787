-- The lexemes that are left at a place, and what a reader does there.

use Rattle.std.proofs.Common.{◌≡◌, ℕ, suc, zero, false, ◌+◌, ◌-◌, ◌<◌, ◌≤◌, List, [], ◌∷◌, Ok, Err, Some, None, length, drop, map, refl, ap, ◌∙◌, arith}
use Rattle.std.specs.List.{slice_get}
use Rattle.c_lexer.specs.declared.token.Token.{Token}
use Rattle.c_lexer.specs.Lexemes.{Lexeme}
use Rattle.reading.specs.Readers.{take, expect, is_ahead, offends, too_deep}
use Rattle.c_reading.specs.Kept.{KeptToken, lexeme_in, numbered, kept_lexemes}
use Rattle.line_marks.specs.Kept.{ArePositionsIn, items_at}
use Rattle.c_reading.specs.Cursors.{Place, input_at, number_ahead, number_of}
use Rattle.line_marks.proofs.ItemsAt.{length-items_at}

there_from : (bytes : List ℕ) (tokens : List Token) (at : ℕ) (t : Token) → slice_get tokens at ≡ Some t →
    drop at (map (lexeme_in bytes) tokens) ≡ lexeme_in bytes t ∷ drop (suc at) (map (lexeme_in bytes) tokens)
there_from bytes [] at t is = absurd (cc)
there_from bytes (x ∷ tokens) zero t is = ap (λ v. lexeme_in bytes v ∷ map (lexeme_in bytes) tokens) (let e : x ≡ t = cc in e)
there_from bytes (x ∷ tokens) (suc at) t is = there_from bytes tokens at t is

-- A token that stands there, and those behind it.
pub there_is : (bytes : List ℕ) (tokens : List Token) (at : ℕ) (t : Token) → slice_get tokens at ≡ Some t →
    drop at (map (lexeme_in bytes) tokens) ≡ lexeme_in bytes t ∷ drop (at + 1) (map (lexeme_in bytes) tokens)
there_is bytes tokens at t is =
    let next : suc at ≡ at + 1 = omega arith in
    there_from bytes tokens at t is ∙ ap (λ n. lexeme_in bytes t ∷ drop n (map (lexeme_in bytes) tokens)) next

-- None stands there, and none is left.
pub none_is : (bytes : List ℕ) (tokens : List Token) (at : ℕ) → slice_get tokens at ≡ None → drop at (map (lexeme_in bytes) tokens) ≡ []
none_is bytes [] zero is = refl
none_is bytes [] (suc at) is = refl
none_is bytes (x ∷ tokens) zero is = absurd (cc)
none_is bytes (x ∷ tokens) (suc at) is = none_is bytes tokens at is

none_past : (tokens : List Token) (at : ℕ) → length tokens ≤ at → slice_get tokens at ≡ None
none_past [] at h = refl
none_past (x ∷ tokens) zero h = absurd (omega arith)
none_past (x ∷ tokens) (suc at) h = none_past tokens at (omega arith)

some_before : (tokens : List Token) (at : ℕ) → at < length tokens → (t : Token) × (slice_get tokens at ≡ Some t)
some_before [] at h = absurd (omega arith)
some_before (x ∷ tokens) zero h = (x, refl)
some_before (x ∷ tokens) (suc at) h = some_before tokens at (omega arith)

-- Behind the last kept token none is left.
pub none_left : (bytes : List ℕ) (tokens : List Token) (kept : List ℕ) (at : ℕ) → ArePositionsIn tokens kept → length kept ≤ at → drop at (kept_lexemes bytes tokens kept) ≡ []
none_left bytes tokens kept at inside h =
    let many = length-items_at tokens kept inside in
    none_is bytes (items_at tokens kept) at (none_past (items_at tokens kept) at (omega (arith, many)))

-- Before its end one is left.
pub some_left : (bytes : List ℕ) (tokens : List Token) (kept : List ℕ) (at : ℕ) → ArePositionsIn tokens kept → at < length kept →
    (lexeme : Lexeme) × (drop at (kept_lexemes bytes tokens kept) ≡ lexeme ∷ drop (at + 1) (kept_lexemes bytes tokens kept))
some_left bytes tokens kept at inside h =
    let many = length-items_at tokens kept inside in
    let t = some_before (items_at tokens kept) at (omega (arith, many)) in
    (lexeme_in bytes t.0, there_is bytes (items_at tokens kept) at t.0 t.1)

length_map : (bytes : List ℕ) (tokens : List Token) → length (map (lexeme_in bytes) tokens) ≡ length tokens
length_map bytes [] = refl
length_map bytes (token ∷ tokens) = ap suc (length_map bytes tokens)

length_drop : (lexemes : List Lexeme) (at : ℕ) → length (drop at lexemes) ≡ length lexemes - at
length_drop lexemes zero = omega arith
length_drop [] (suc at) = omega arith
length_drop (lexeme ∷ lexemes) (suc at) = let h = length_drop lexemes at in omega (arith, h)

-- How many are left.
pub many_left : (bytes : List ℕ) (tokens : List Token) (kept : List ℕ) (at : ℕ) → ArePositionsIn tokens kept → length (drop at (kept_lexemes bytes tokens kept)) ≡ length kept - at
many_left bytes tokens kept at inside =
    let many = length-items_at tokens kept inside in
    let mapped = length_map bytes (items_at tokens kept) in
    let dropped = length_drop (kept_lexemes bytes tokens kept) at in
    omega (arith, many, mapped, dropped)

-- ---- What a reader does

pub length-numbered : (number : ℕ) (lexemes : List Lexeme) → length (numbered number lexemes) ≡ length lexemes
length-numbered number [] = refl
length-numbered number (lexeme ∷ lexemes) = ap suc (length-numbered (number + 1) lexemes)

-- The number ahead is that of the place.
pub number_ahead_is : {Scope : Type 0} (place : Place) (scope : Scope) → place.at ≡ number_ahead (input_at place scope)
unfolding input_at
number_ahead_is place scope = let h = length-numbered place.at place.left in omega (arith, h)

-- Where none is left the end offends.
pub take_at_end : {Scope : Type 0} (room : ℕ) (place : Place) (scope : Scope) → place.left ≡ [] → take number_of room (input_at place scope) ≡ Err (offends (input_at place scope))
unfolding input_at
take_at_end room place scope h = rw h refl

-- Where there is no room a token is too deep.
pub take_too_deep : {Scope : Type 0} (room : ℕ) (place : Place) (scope : Scope) (lexeme : Lexeme) (left : List Lexeme) → room ≡ 0 → place.left ≡ lexeme ∷ left →
    take number_of room (input_at place scope) ≡ Err (too_deep (input_at place scope))
unfolding input_at
take_too_deep room place scope lexeme left e h = rw (e, h) refl

taken_at : {Scope : Type 0} (room at level : ℕ) (scope : Scope) (lexeme : Lexeme) (left : List Lexeme) → 0 < room →
    take number_of room (input_at (record { at = at; left = lexeme ∷ left; level = level }) scope) ≡ Ok (at, input_at (record { at = at + 1; left = left; level = level }) scope)
unfolding input_at
taken_at zero at level scope lexeme left h = absurd (omega arith)
taken_at (suc room) at level scope lexeme left h =
    let e : at + suc (length left) ≡ (at + 1) + length left = omega arith in
    ap (λ (n : ℕ). Ok (at, record { tokens = numbered (at + 1) left; scope = scope; around = record { end = n; level = level } })) e

-- Else it is taken.
pub taken : {Scope : Type 0} (room : ℕ) (place : Place) (scope : Scope) (lexeme : Lexeme) (left : List Lexeme) → 0 < room → place.left ≡ lexeme ∷ left →
    take number_of room (input_at place scope) ≡ Ok (place.at, input_at (record { at = place.at + 1; left = left; level = place.level }) scope)
taken room place scope lexeme left h e =
    let same : place ≡ record { at = place.at; left = lexeme ∷ left; level = place.level } = ap (λ (ls : List Lexeme). let p : Place = record { at = place.at; left = ls; level = place.level } in p) e in
    ap (λ (p : Place). take number_of room (input_at p scope)) same ∙ taken_at room place.at place.level scope lexeme left h

-- Where the next token is none of the set it offends.
pub expect_none : {Scope : Type 0} (terminal_of : Scope → KeptToken → ℕ) (set : List ℕ) (room : ℕ) (place : Place) (scope : Scope) → false ≡ is_ahead terminal_of set (input_at place scope) →
    expect terminal_of set number_of room (input_at place scope) ≡ Err (offends (input_at place scope))
unfolding expect
expect_none terminal_of set room place scope h = rw (← h) refl
