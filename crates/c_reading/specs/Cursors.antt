-- The place of a parser among the kept tokens.

use Rattle.std.specs.Prelude.{ℕ, ◌+◌, ◌-◌, Bool, List, [], ◌∷◌, length, drop, Option, Some, None}
use Rattle.c_lexer.specs.declared.token.Kind.{Kind}
use Rattle.c_lexer.specs.Lexemes.{Lexeme}
use Rattle.reading.specs.Readers.{Input}
use Rattle.c_reading.specs.Kept.{KeptToken, numbered}
use Rattle.c_reading.specs.Terminals.{terminal, terminal_where}

-- The number of the next kept token, those that are left, and the nesting level around them.
pub record Place : Type 0 where
  pub at : ℕ
  pub left : List Lexeme
  pub level : ℕ

-- The place of this number among all of the lexemes.
abbrev pub place_of : List Lexeme → ℕ → ℕ → Place
place_of lexemes at level = record { at = at; left = drop at lexemes; level = level }

-- Before the first of the lexemes, with nothing around them.
abbrev pub beginning : List Lexeme → Place
beginning lexemes = record { at = 0; left = lexemes; level = 0 }

-- The kind of the first lexeme, if there is one.
abbrev pub first_kind : List Lexeme → Option Kind
first_kind [] = None
first_kind (lexeme ∷ lexemes) = Some lexeme.kind

-- The bytes of the first lexeme, or none.
abbrev pub first_spelling : List Lexeme → List ℕ
first_spelling [] = []
first_spelling (lexeme ∷ lexemes) = lexeme.spelling

-- What no reader changes: the number of the end mark, which is one more than that of the last
-- token, and the level around.
pub record Around : Type 0 where
  pub end : ℕ
  pub level : ℕ

-- What a reader reads at a place, in a scope.
unfoldable pub input_at : {Scope : Type 0} → Place → Scope → Input KeptToken Scope Around
input_at place scope = record {
  tokens = numbered place.at place.left;
  scope = scope;
  around = record { end = place.at + length place.left; level = place.level };
}

-- The same, where no names are looked up.
abbrev pub input_of : Place → Input KeptToken (Prim.Unit {0}) Around
input_of place = input_at place tt

-- The number of the next token, or of the end mark.
abbrev pub number_ahead : {Scope : Type 0} → Input KeptToken Scope Around → ℕ
number_ahead input = input.around.end - length input.tokens

abbrev pub number_of : KeptToken → ℕ
number_of token = token.number

-- Where no names are looked up a terminal is a kind.
abbrev pub by_kind : {Scope : Type 0} → Scope → KeptToken → ℕ
by_kind scope token = terminal token.lexeme.kind

-- The terminal of a token in a scope, which says which names are typedef names.
unfoldable pub terminal_in : {Scope : Type 0} → (Scope → List ℕ → Bool) → Scope → KeptToken → ℕ
terminal_in is_typedef scope token =
    terminal_where (is_typedef scope) token.lexeme.kind token.lexeme.spelling
