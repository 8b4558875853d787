-- What is asked of the words of the rules of statements, and of what these are made.

use Rattle.std.specs.Prelude.{ℕ, zero, suc, ◌≡◌, ◌≤◌, List, Option}
use Rattle.c_lexer.specs.declared.token.Kind.{Kind}
use Rattle.c_tree.specs.declared.tree.Assign.{Assign}
use Rattle.c_tree.specs.declared.tree.BlockItem.{BlockItem, out-BlockItem}
use Rattle.c_tree.specs.Forms.{sole}
use Rattle.c_tree.specs.Expressions.{IsConstant}
use Rattle.c_tree.specs.Depths.{inner_to, IsFormedExpr, IsFormedDeclaration}
use Rattle.c_tree.specs.Statements.{IsBlockItem, IsFormedStmt, ends_in_if}
use Rattle.c_stmt.specs.declared.forms.Ended.{Ended}
use Rattle.c_stmt.specs.Below.{Below}
use Rattle.expression_trees.specs.Saying.{AreTrees, AreWords}
use Rattle.expression_trees.specs.Trees.{of_expr, of_assign}
use Rattle.statement_trees.specs.Trees.{of_declaration}

-- The value has the form to each depth from this one on.
abbrev pub IsFrom : {A : Type 0} → ℕ → (ℕ → A → Type 0) → A → Type 0
IsFrom first IsFormed a = (depth : ℕ) → first ≤ depth → IsFormed depth a

-- A body may be a statement in a statement, and a turn nests one level of braces: so a rule of so
-- many turns nests twice as many statements.
abbrev pub twice : ℕ → ℕ
twice zero = zero
twice (suc turns) = suc (suc (twice turns))

module _ (kind_of : ℕ → Option Kind) (bytes_of : ℕ → List ℕ) where
  -- A constant expression (6.6).
  abbrev pub IsFormedConstant : ℕ → Assign → Type 0
  IsFormedConstant depth assign = IsConstant kind_of (inner_to kind_of depth) (sole assign)

  -- An item of a block (6.8.2).
  abbrev pub IsFormedItem : ℕ → BlockItem → Type 0
  IsFormedItem depth item =
      IsBlockItem kind_of depth (IsFormedStmt kind_of depth) (out-BlockItem item)

  -- A statement, of which is known whether an `else` behind it would belong to it (6.8.4.1p3).
  abbrev pub IsFormedEnded : ℕ → Ended → Type 0
  IsFormedEnded depth ended =
      IsFormedStmt kind_of depth ended.stmt × (ended.dangles ≡ ends_in_if ended.stmt)

  -- The words of expressions, constant expressions and declarations are trees of the forms.
  pub record BelowAreTrees (below : Below) : Type 0 where
    pub expr : (turns level : ℕ) → AreTrees kind_of bytes_of (below.expr turns level)
        (IsFrom turns (IsFormedExpr kind_of)) (of_expr kind_of bytes_of)
    pub constant : (turns level : ℕ) → AreTrees kind_of bytes_of (below.constant turns level)
        (IsFrom turns IsFormedConstant) (of_assign kind_of bytes_of)
    pub declaration : (turns level : ℕ) → AreTrees kind_of bytes_of
        (below.declaration turns level) (IsFrom turns (IsFormedDeclaration kind_of))
        (of_declaration kind_of bytes_of)

  -- The trees of the forms are words of them.
  pub record BelowAreWords (below : Below) : Type 0 where
    pub expr : (level depth : ℕ) → AreWords kind_of bytes_of (λ turns. below.expr turns level)
        (IsFormedExpr kind_of depth) (of_expr kind_of bytes_of)
    pub constant : (level depth : ℕ) → AreWords kind_of bytes_of
        (λ turns. below.constant turns level) (IsFormedConstant depth)
        (of_assign kind_of bytes_of)
    pub declaration : (level depth : ℕ) → AreWords kind_of bytes_of
        (λ turns. below.declaration turns level) (IsFormedDeclaration kind_of depth)
        (of_declaration kind_of bytes_of)
