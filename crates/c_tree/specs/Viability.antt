-- Which lists of lexemes begin a tree, and which token offends: the first with which they begin
-- none (ours). It is said of lists alone, and no text need stand behind one.

use Rattle.std.specs.Prelude.{ℕ, ◌+◌, ◌≡◌, ◌≤◌, ◌<◌, List, ◌++◌, take, length, All}
use Rattle.c_tree.specs.Lexemes.{Lexeme, IsLexeme}
use Rattle.c_scopes.specs.Scopes.{OpenScopes, file_scope}
use Rattle.c_tree.specs.Units.{Grammar, IsTreeOf, IsAccepted, units}

module _ {Tree : Type 0} (grammar : Grammar Tree) (open_scopes : OpenScopes) (begin : ℕ) where
  -- The lexemes are spelled by a tree.
  abbrev pub IsSpelled : List Lexeme → Type 0
  IsSpelled lexemes = (tree : Tree) × IsTreeOf grammar open_scopes begin lexemes tree

  -- With more lexemes they are spelled by a tree, of whatever depth.
  pub record IsViable (lexemes : List Lexeme) : Type 0 where
    pub more : List Lexeme
    pub each : All IsLexeme more
    pub whole : IsSpelled (lexemes ++ more)

  -- So many of the lexemes are viable, and not one more.
  pub record IsLongestViable (lexemes : List Lexeme) (count : ℕ) : Type 0 where
    pub within : count ≤ length lexemes
    pub viable : IsViable (take count lexemes)
    pub longest : count < length lexemes → ¬ IsViable (take (count + 1) lexemes)

  -- The tree is what is read of the lexemes: it spells as many of them as are viable.
  pub record IsReadAs (lexemes : List Lexeme) (tree : Tree) (count : ℕ) : Type 0 where
    pub longest : IsLongestViable lexemes count
    pub whole : IsTreeOf grammar open_scopes begin (take count lexemes) tree

  -- No tree is read of the lexemes: so many of them are viable, and no tree spells these. The token
  -- with that number from the first on offends, which is the end mark where all are viable.
  pub record Offends (lexemes : List Lexeme) (count : ℕ) : Type 0 where
    pub longest : IsLongestViable lexemes count
    pub none : ¬ IsSpelled (take count lexemes)

-- The number of the offending token of a file: the first with which the tokens up to it begin no
-- file, or the end mark, where all begin one and are none.
pub record IsOffending (lexemes : List Lexeme) (token : ℕ) : Type 0 where
  pub longest : IsLongestViable units file_scope 0 lexemes token
  pub refused : token ≡ length lexemes → ¬ IsAccepted lexemes
