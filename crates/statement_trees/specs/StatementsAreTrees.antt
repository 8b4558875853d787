-- That what the rules of statements and blocks read are trees, and that trees are read (C11 6.8).

use Rattle.std.specs.Prelude.{ℕ, ◌≡◌, true, List, Option}
use Rattle.c_lexer.specs.declared.token.Kind.{Kind}
use Rattle.c_tree.specs.declared.tree.Expr.{Expr}
use Rattle.c_tree.specs.declared.tree.Assign.{Assign}
use Rattle.c_tree.specs.declared.tree.Declaration.{Declaration}
use Rattle.c_tree.specs.Statements.{IsFormedBlock}
use Rattle.c_stmt.specs.declared.forms.Ended.{Ended}
use Rattle.c_stmt.specs.Below.{Below}
use Rattle.c_stmt.specs.Statements.{statement, block}
use Rattle.expression_trees.specs.Saying.{AreTrees, AreWords}
use Rattle.expression_trees.specs.ExpressionsAreTrees.{Words}
use Rattle.statement_trees.specs.Trees.{of_stmt, of_block}
use Rattle.statement_trees.specs.Forms.{IsFrom, twice, IsFormedEnded, BelowAreTrees, BelowAreWords}
use Rattle.statement_trees.specs.Innermost.{AreFree}

-- Expressions, constant expressions and declarations, each by its words for so many turns and on
-- such a level.
pub record BelowWords : Type 0 where
  pub expr : ℕ → ℕ → Words Expr
  pub constant : ℕ → ℕ → Words Assign
  pub declaration : ℕ → ℕ → Words Declaration

abbrev pub below_by : BelowWords → Below
below_by words = record {
  expr = λ turns level scopes word end. words.expr turns level scopes word end ≡ true;
  constant = λ turns level scopes word end. words.constant turns level scopes word end ≡ true;
  declaration = λ turns level scopes word end.
      words.declaration turns level scopes word end ≡ true;
}

-- The words of statements and blocks are trees, if those of what they are made of are trees.
abbrev pub WordsAreTrees : Type 0
WordsAreTrees =
    (kind_of : ℕ → Option Kind) (bytes_of : ℕ → List ℕ) → AreFree kind_of bytes_of →
    (words : BelowWords) → BelowAreTrees kind_of bytes_of (below_by words) → (turns level : ℕ) →
    AreTrees kind_of bytes_of (statement (below_by words) turns level)
    (IsFrom (twice turns) (IsFormedEnded kind_of bytes_of))
    (λ (ended : Ended). of_stmt kind_of bytes_of ended.stmt) ×
    AreTrees kind_of bytes_of (block (below_by words) turns level)
    (IsFrom (twice turns) (IsFormedBlock kind_of)) (of_block kind_of bytes_of)

-- And the trees are words.
abbrev pub TreesAreWords : Type 0
TreesAreWords =
    (kind_of : ℕ → Option Kind) (bytes_of : ℕ → List ℕ) → AreFree kind_of bytes_of →
    (words : BelowWords) → BelowAreWords kind_of bytes_of (below_by words) → (level depth : ℕ) →
    AreWords kind_of bytes_of (λ turns. statement (below_by words) turns level)
    (IsFormedEnded kind_of bytes_of depth) (λ (ended : Ended). of_stmt kind_of bytes_of ended.stmt)
    × AreWords kind_of bytes_of (λ turns. block (below_by words) turns level)
    (IsFormedBlock kind_of depth) (of_block kind_of bytes_of)

pub record StatementsAreTrees : Type 0 where
  pub words : WordsAreTrees
  pub trees : TreesAreWords
