-- The tokens that are left, each with its number and its kind.

use Rattle.std.specs.Prelude.{ℕ, ◌≡◌, ◌+◌, List, [], ◌∷◌}
use Rattle.c_lexer.specs.declared.token.Kind.{Kind}

abbrev pub Rest : Type 0
Rest = List (ℕ × Kind)

-- Tokens of the kinds, numbered on from the first number.
abbrev pub numbered : ℕ → List Kind → Rest
numbered number [] = []
numbered number (kind ∷ kinds) = (number, kind) ∷ numbered (number + 1) kinds

-- The next token is of the kind.
abbrev pub IsAt : Kind → Rest → Type 0
IsAt kind [] = ⊥
IsAt kind (token ∷ rest) = token.1 ≡ kind

-- The next token has the kind and the number, and `after` is left behind it.
abbrev pub TokenAt : Kind → ℕ → Rest → Rest → Type 0
TokenAt kind number before after = before ≡ (number, kind) ∷ after
