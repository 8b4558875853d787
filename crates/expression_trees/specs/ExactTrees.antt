-- When a list of lexemes is read exactly, in the words of trees.

use Rattle.std.specs.Prelude.{ℕ, ◌≡◌, ◌+◌, List, [], ◌∷◌, Some, drop, take, Ok, Err}
use Rattle.c_lexer.specs.declared.token.Kind.{Kind}
use Rattle.c_scopes.specs.Scopes.{OpenScopes}
use Rattle.c_tree.specs.Lexemes.{Lexeme}
use Rattle.c_tree.specs.Units.{Grammar}
use Rattle.c_tree.specs.Viability.{IsReadAs, Offends}
use Rattle.c_tree.specs.Levels.{Nesting, nesting_level, after_token, opens_at, IsTooDeep, no_bodies}
use Rattle.reading.specs.Languages.{Leveled, tokens_of}
use Rattle.reading.specs.Readers.{Outcome, offends, too_deep}
use Rattle.c_reading.specs.Kept.{KeptToken, numbered}
use Rattle.c_reading.specs.Cursors.{Around}
use Rattle.c_syntax.specs.Scoping.{Part}
use Rattle.expression_trees.specs.Spelling.{scopes_behind}

-- Nothing is open.
abbrev pub nothing_open : Nesting
nothing_open = record { innermost = 0; around = [] }

-- The level of a token where so much is open, and this around it.
abbrev pub level_at : ℕ → Nesting → Kind → ℕ
level_at base nesting kind = base + (nesting_level nesting + opens_at (Some kind))

-- The tokens have the levels that what is open gives them, from the one place to the other.
abbrev pub Walks : ℕ → Nesting → List (Leveled KeptToken) → Nesting → Type 0
Walks base nesting [] end = nesting ≡ end
Walks base nesting (token ∷ word) end = (token.1 ≡ level_at base nesting token.0.lexeme.kind) ×
    Walks base (after_token nesting token.0.lexeme.kind) word end

-- The words of the rule have the levels that their brackets and `?` give them.
abbrev pub AreLeveled : {Tree : Type 0} → (ℕ → Part Tree) → ℕ → Type 0
AreLeveled {Tree} rule base = (turns : ℕ) (scopes : OpenScopes) (word : List (Leveled KeptToken))
    (end : Tree × OpenScopes) → rule turns scopes word end →
    Walks base nothing_open word nothing_open

-- A word of the rule has at most one value, whatever its levels.
abbrev pub IsUnambiguous : {Tree : Type 0} → (ℕ → Part Tree) → Type 0
IsUnambiguous {Tree} rule = (turns : ℕ) (scopes : OpenScopes)
    (v w : List (Leveled KeptToken)) (a b : Tree × OpenScopes) → tokens_of v ≡ tokens_of w →
    rule turns scopes v a → rule turns scopes w b → a ≡ b

-- The longest viable run of the lexemes is read, or the first offending one is blamed, or the first
-- that is too deep.
pub data IsReadExactly {Tree : Type 0} (grammar : Grammar Tree) (scopes : OpenScopes)
    (around : Around) (base begin : ℕ) (lexemes : List Lexeme) :
    Outcome KeptToken OpenScopes Around Tree → Type 0 where
  reads : (count : ℕ) (tree : Tree) → IsReadAs grammar scopes begin lexemes tree count →
      IsReadExactly grammar scopes around base begin lexemes (Ok (
        tree,
        record {
          tokens = numbered (begin + count) (drop count lexemes);
          scope = scopes_behind grammar scopes begin (take count lexemes) tree;
          around = around;
        },
      ))
  refuses : (count : ℕ) (scope : OpenScopes) → Offends grammar scopes begin lexemes count →
      IsReadExactly grammar scopes around base begin lexemes (Err (offends (record {
        tokens = numbered (begin + count) (drop count lexemes);
        scope = scope;
        around = around;
      })))
  is_too_deep : (position : ℕ) (scope : OpenScopes) →
      IsTooDeep grammar no_bodies scopes base begin lexemes position →
      IsReadExactly grammar scopes around base begin lexemes (Err (too_deep (record {
        tokens = numbered (begin + position) (drop position lexemes);
        scope = scope;
        around = around;
      })))
