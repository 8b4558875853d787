-- Unions of sets of terminals, and sets of declarations that tell no names apart.

use Rattle.std.proofs.Common.{◌≡◌, ℕ, Bool, true, false, ◌==◌, ◌||◌, List, [], ◌∷◌, ◌++◌, refl, sym, ap, ◌∙◌}
use Rattle.c_lexer.specs.declared.keyword.TheConstants.{KEY_ATOMIC}
use Rattle.c_scopes.specs.Scopes.{OpenScopes}
use Rattle.reading.specs.Terminals.{has}
use Rattle.reading.specs.Readers.{Input, begins, is_ahead}
use Rattle.c_reading.specs.Kept.{KeptToken}
use Rattle.c_reading.specs.Cursors.{Around}
use Rattle.c_reading.specs.Terminals.{WORD, TYPEDEF_NAME, key}
use Rattle.c_syntax.specs.Scoping.{terminal_of}
use Rattle.c_syntax.specs.Sets.{begins_specifier}
use Rattle.c_specifiers.specs.declared.forms.Place.{Place}
use Rattle.c_specifiers.specs.declared.forms.Place.TheVariants.{Ordinary, Definition, Parameter, Member, Nameless}
use Rattle.c_specifiers.specs.DeclarationSets.{begins_modifier, begins_word}

or_union : (a b c d : Bool) → b ≡ (c || d) → (a || b) ≡ ((a || c) || d)
or_union true b c d e = refl
or_union false b c d e = e

has_union : (set other : List ℕ) (n : ℕ) → has (set ++ other) n ≡ (has set n || has other n)
has_union [] other n = refl
has_union (m ∷ set) other n = or_union (m == n) (has (set ++ other) n) (has set n) (has other n) (has_union set other n)

union_begins : (set other : List ℕ) (scopes : OpenScopes) (tokens : List KeptToken) →
    begins (λ t. has (set ++ other) (terminal_of scopes t)) tokens
    ≡ (begins (λ t. has set (terminal_of scopes t)) tokens || begins (λ t. has other (terminal_of scopes t)) tokens)
union_begins set other scopes [] = refl
union_begins set other scopes (t ∷ tokens) = has_union set other (terminal_of scopes t)

module _ (set other : List ℕ) (input : Input KeptToken OpenScopes Around) where
  union_ahead : is_ahead terminal_of (set ++ other) input ≡ (is_ahead terminal_of set input || is_ahead terminal_of other input)
  union_ahead = union_begins set other input.scope input.tokens

  -- The next token is of a union.
  pub first_ahead : is_ahead terminal_of set input ≡ true → true ≡ is_ahead terminal_of (set ++ other) input
  first_ahead e = sym (union_ahead ∙ ap (λ (b : Bool). b || is_ahead terminal_of other input) e)

  pub second_ahead : is_ahead terminal_of set input ≡ false → is_ahead terminal_of other input ≡ is_ahead terminal_of (set ++ other) input
  second_ahead e = sym (union_ahead ∙ ap (λ (b : Bool). b || is_ahead terminal_of other input) e)

-- ---- Specifiers behind a type specifier

module _ (place : Place) (n : ℕ) where
  abbrev atomic : Bool
  atomic = has (key KEY_ATOMIC ∷ []) n

  abbrev specifier : Bool
  specifier = has begins_specifier n

  abbrev modifier : Bool
  modifier = has (begins_modifier place) n

  has_word : has (begins_word place) n ≡ (atomic || (specifier || modifier))
  has_word =
      has_union (key KEY_ATOMIC ∷ []) (begins_specifier ++ begins_modifier place) n
      ∙ ap (λ (b : Bool). atomic || b) (has_union begins_specifier (begins_modifier place) n)

  some : (a b c : Bool) → b ≡ true → (a || (b || c)) ≡ true
  some true b c e = refl
  some false b c e = ap (λ (x : Bool). x || c) e

  last : (a b c : Bool) → b ≡ false → (a || (b || c)) ≡ (a || c)
  last a b c e = ap (λ (x : Bool). a || (x || c)) e

  second : (a c : Bool) → c ≡ true → (a || c) ≡ true
  second true c e = refl
  second false c e = e

  first : (a c : Bool) → c ≡ false → (a || c) ≡ a
  first true c e = refl
  first false c e = e

  pub word_by_specifier : specifier ≡ true → true ≡ has (begins_word place) n
  word_by_specifier e = sym (has_word ∙ some atomic specifier modifier e)

  pub word_by_modifier : specifier ≡ false → modifier ≡ true → true ≡ has (begins_word place) n
  word_by_modifier e f = sym (has_word ∙ (last atomic specifier modifier e ∙ second atomic modifier f))

  pub word_by_atomic : specifier ≡ false → modifier ≡ false → atomic ≡ has (begins_word place) n
  word_by_atomic e f = sym (has_word ∙ (last atomic specifier modifier e ∙ first atomic modifier f))

-- ---- Sets that tell no names apart

abbrev pub IsAlike : List ℕ → Type 0
IsAlike set = has set WORD ≡ has set TYPEDEF_NAME

pub word_alike : (place : Place) → IsAlike (begins_word place)
word_alike Ordinary = refl
word_alike Definition = refl
word_alike Parameter = refl
word_alike Member = refl
word_alike Nameless = refl
