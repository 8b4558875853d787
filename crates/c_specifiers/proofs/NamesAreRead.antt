-- A word is taken as its number is.

use Rattle.std.proofs.Common.{◌≡◌, ℕ, ◌+◌, zero, suc, Bool, true, false, if◌then◌else◌, List, [], ◌∷◌, Ok, Err, sym, ap, ◌∙◌}
use Rattle.c_lexer.specs.Lexemes.{Lexeme}
use Rattle.c_scopes.specs.Scopes.{OpenScopes}
use Rattle.reading.specs.Readers.{Input, Halt, Outcome, offends, expect, is_ahead, take_first}
use Rattle.c_reading.specs.declared.stop.Stop.{Stop}
use Rattle.c_reading.specs.declared.stop.Stop.TheVariants as stop
use Rattle.c_reading.specs.Kept.{KeptToken, numbered}
use Rattle.c_reading.specs.Cursors.{Place, Around, input_at, number_of, first_spelling}
use Rattle.c_reading.specs.Reads.{Halts}
use Rattle.c_syntax.specs.Scoping.{terminal_of}
use Rattle.c_syntax.specs.Steps.{expect_among}
use Rattle.c_specifiers.specs.Words.{NamedToken, word_of}
use Rattle.c_specifiers.specs.DeclarationSteps.{expect_word}

abbrev At : Type 0
At = Input KeptToken OpenScopes Around

abbrev Given : Type 0 → Type 0
Given A = Outcome KeptToken OpenScopes Around A

abbrev named : ℕ → List ℕ → NamedToken
named token bytes = record { token = token; bytes = bytes }

module _ (input : At) (at : ℕ) where
  abbrev numbers : ℕ → List Lexeme → Bool → Given ℕ
  numbers room left b = if b then take_first number_of room (numbered at left) input else Err (offends input)

  abbrev words : ℕ → List Lexeme → Bool → Given NamedToken
  words room left b = if b then take_first word_of room (numbered at left) input else Err (offends input)

  taken : (room : ℕ) (left : List Lexeme) (b : Bool) (n : ℕ) (new : At) → numbers room left b ≡ Ok (n, new) → words room left b ≡ Ok (named n (first_spelling left), new)
  taken room left false n new e = absurd (cc)
  taken room [] true n new e = absurd (cc)
  taken zero (lexeme ∷ left) true n new e = absurd (cc)
  taken (suc room) (lexeme ∷ left) true n new e =
      let f : (at, record input { tokens = numbered (at + 1) left }) ≡ (n, new) = cc in
      ap (λ (z : ℕ × At). Ok (named z.0 lexeme.spelling, z.1)) f

  stopped : (room : ℕ) (left : List Lexeme) (b : Bool) (h : Halt KeptToken OpenScopes Around) → numbers room left b ≡ Err h → words room left b ≡ Err h
  stopped room left false h e = let f : offends input ≡ h = cc in ap (λ (z : Halt KeptToken OpenScopes Around). Err z) f
  stopped room [] true h e = let f : offends input ≡ h = cc in ap (λ (z : Halt KeptToken OpenScopes Around). Err z) f
  stopped zero (lexeme ∷ left) true h e = cc
  stopped (suc room) (lexeme ∷ left) true h e = absurd (cc)

module _ (set : List ℕ) (room : ℕ) (place : Place) (scopes : OpenScopes) where
  pub word_taken : (n : ℕ) (bytes : List ℕ) (new : At) → bytes ≡ first_spelling place.left → expect_among set room (input_at place scopes) ≡ Ok (n, new) →
      expect_word set room (input_at place scopes) ≡ Ok (named n bytes, new)
  unfolding expect input_at
  word_taken n bytes new same e =
      taken (input_at place scopes) place.at room place.left (is_ahead terminal_of set (input_at place scopes)) n new e
      ∙ ap (λ (z : List ℕ). Ok (named n z, new)) (sym same)

  halted : (h : Halt KeptToken OpenScopes Around) → expect_among set room (input_at place scopes) ≡ Err h → expect_word set room (input_at place scopes) ≡ Err h
  unfolding expect input_at
  halted h e = stopped (input_at place scopes) place.at room place.left (is_ahead terminal_of set (input_at place scopes)) h e

  pub word_halted : (why : Stop) → Halts (expect_among set room (input_at place scopes)) why → Halts (expect_word set room (input_at place scopes)) why
  word_halted (stop.Offends token) x = (x.0, halted _ x.1, x.2)
  word_halted (stop.TooDeep token) x = (x.0, halted _ x.1, x.2)
  word_halted stop.Memory x = tt
