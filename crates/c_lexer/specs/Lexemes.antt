-- Lexemes: what the grammar sees of tokens (C11 6.4).

use Rattle.std.specs.Prelude.{◌≡◌, ℕ, List, Option, Some, None, [], ◌∷◌, map, slice_get, length}
use Rattle.std.specs.Option.{option_map}
use Rattle.std.specs.Prelude.{unwrap_or, All}
use Rattle.c_lexer.specs.declared.token.Kind.{Kind}
use Rattle.c_lexer.specs.Spelling.{Spells}

-- The kind of a token, and its bytes.
pub record Lexeme : Type 0 where
  pub kind : Kind
  pub spelling : List ℕ

-- The bytes alone spell a token of the kind (6.4p1).
abbrev pub IsLexeme : Lexeme → Type 0
IsLexeme lexeme = Spells lexeme.spelling 0 (length lexeme.spelling) lexeme.kind

-- The kinds of the lexemes.
abbrev pub kinds_in : List Lexeme → List Kind
kinds_in lexemes = map (λ (lexeme : Lexeme). lexeme.kind) lexemes

-- The kind of the token with the number, where there is one.
abbrev pub kind_at : List Lexeme → ℕ → Option Kind
kind_at lexemes token = option_map (λ (lexeme : Lexeme). lexeme.kind) (slice_get lexemes token)

-- The bytes of the token with the number.
abbrev pub spelling_at : List Lexeme → ℕ → List ℕ
spelling_at lexemes token =
    unwrap_or (option_map (λ (lexeme : Lexeme). lexeme.spelling) (slice_get lexemes token)) []
