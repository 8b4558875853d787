-- What the code sees of the next token is what the reader of a file asks of it.

use Rattle.std.proofs.Common.{◌≡◌, ℕ, Bool, true, false, ◌==◌, ◌||◌, List, [], ◌∷◌, ◌++◌, refl, sym, ◌∙◌}
use Rattle.c_scopes.specs.Scopes.{OpenScopes}
use Rattle.reading.specs.Terminals.{has}
use Rattle.reading.specs.Readers.{Input, begins, is_ahead}
use Rattle.c_reading.specs.Kept.{KeptToken}
use Rattle.c_reading.specs.Cursors.{Around}
use Rattle.c_syntax.specs.Scoping.{terminal_of}
use Rattle.c_syntax.specs.Sets.{a_type}
use Rattle.c_unit.specs.UnitSets.{a_declaration_word, begins_external}

or_union : (a b c d : Bool) → b ≡ (c || d) → (a || b) ≡ ((a || c) || d)
or_union true b c d e = refl
or_union false b c d e = e

has_union : (set other : List ℕ) (n : ℕ) → has (set ++ other) n ≡ (has set n || has other n)
has_union [] other n = refl
has_union (m ∷ set) other n = or_union (m == n) (has (set ++ other) n) (has set n) (has other n) (has_union set other n)

or_first : (a b : Bool) → a ≡ true → true ≡ (a || b)
or_first true b e = refl
or_first false b e = absurd (cc)

or_second : (a b : Bool) → a ≡ false → b ≡ (a || b)
or_second true b e = absurd (cc)
or_second false b e = refl

abbrev In : OpenScopes → List ℕ → KeptToken → Bool
In scopes set token = has set (terminal_of scopes token)

external_at : (scopes : OpenScopes) (tokens : List KeptToken) →
    begins (In scopes begins_external) tokens ≡ (begins (In scopes a_type) tokens || begins (In scopes a_declaration_word) tokens)
external_at scopes [] = refl
external_at scopes (t ∷ tokens) = has_union a_type a_declaration_word (terminal_of scopes t)

module _ (input : Input KeptToken OpenScopes Around) where
  pub external_by_a_type : is_ahead terminal_of a_type input ≡ true → true ≡ is_ahead terminal_of begins_external input
  external_by_a_type e = or_first _ _ e ∙ sym (external_at input.scope input.tokens)

  pub external_by_a_word : is_ahead terminal_of a_type input ≡ false → is_ahead terminal_of a_declaration_word input ≡ is_ahead terminal_of begins_external input
  external_by_a_word e = or_second _ _ e ∙ sym (external_at input.scope input.tokens)
