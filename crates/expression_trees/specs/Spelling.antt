-- Rules whose words are the trees that lists of lexemes spell.

use Rattle.std.specs.Prelude.{ℕ, ◌≡◌, ◌-◌, List, ◌++◌}
use Rattle.c_lexer.specs.declared.token.Kind.{Kind}
use Rattle.c_scopes.specs.Scopes.{OpenScopes}
use Rattle.c_scopes.specs.Events.{after_events}
use Rattle.c_tree.specs.declared.tree.Expr.{Expr}
use Rattle.c_tree.specs.Spell.{expr_spelling}
use Rattle.c_tree.specs.TreeEvents.{expr_events}
use Rattle.c_tree.specs.Lexemes.{Lexeme, IsLexeme, kind_at, spelling_at}
use Rattle.c_tree.specs.Units.{Grammar, IsTreeOf}
use Rattle.c_tree.specs.Viability.{IsViable}
use Rattle.reading.specs.Languages.{Leveled, tokens_of}
use Rattle.reading.specs.Exact.{AreLexemes}
use Rattle.c_reading.specs.Kept.{KeptToken, numbered}
use Rattle.c_syntax.specs.Scoping.{Part}
use Rattle.expression_trees.specs.Saying.{IsWord}
use Rattle.expression_trees.specs.Simplest.{IsSimplestExpr}

-- A token that a text can have.
abbrev pub IsToken : KeptToken → Type 0
IsToken token = IsLexeme token.lexeme

-- The scopes behind a tree of the lexemes.
abbrev pub scopes_behind : {Tree : Type 0} → Grammar Tree → OpenScopes → ℕ → List Lexeme → Tree →
    OpenScopes
scopes_behind grammar scopes begin lexemes tree = after_events scopes (grammar.events
    (λ token. kind_at lexemes (token - begin))
    (λ token. spelling_at lexemes (token - begin)) tree)

-- The words of the rule and the trees of the grammar are the same: of tokens that are numbered from
-- some number on a word of the rule is a tree that they spell, and each tree that they spell is a
-- word; and what begins a word begins a tree.
pub record AreItsTrees {Tree : Type 0} (rule : ℕ → Part Tree) (grammar : Grammar Tree) :
    Type 0 where
  pub trees : (scopes end : OpenScopes) (begin turns : ℕ) (lexemes : List Lexeme)
      (word : List (Leveled KeptToken)) (tree : Tree) → tokens_of word ≡ numbered begin lexemes →
      rule turns scopes word (tree, end) →
      IsTreeOf grammar scopes begin lexemes tree ×
      (end ≡ scopes_behind grammar scopes begin lexemes tree)
  pub words : (scopes : OpenScopes) (begin : ℕ) (lexemes : List Lexeme) (tree : Tree) →
      IsTreeOf grammar scopes begin lexemes tree →
      IsWord rule tree (numbered begin lexemes) scopes
      (scopes_behind grammar scopes begin lexemes tree)
  pub begins : (scopes : OpenScopes) (begin turns : ℕ) (lexemes : List Lexeme)
      (run more : List (Leveled KeptToken)) (end : Tree × OpenScopes) →
      tokens_of run ≡ numbered begin lexemes → AreLexemes IsToken more →
      rule turns scopes (run ++ more) end → IsViable grammar scopes begin lexemes

-- Expressions with the simplest type names and items.
abbrev pub simplest_exprs : Grammar Expr
simplest_exprs = record {
  spelling = expr_spelling;
  IsFormed = λ kind_of bytes_of depth expr. IsSimplestExpr kind_of depth expr;
  events = expr_events;
}
