-- What is met in the same way whatever scopes stand around it, if the declarations in these are the
-- same, and declares names in the innermost scope alone.

use Rattle.std.specs.Prelude.{ℕ, ◌≡◌, List, ◌++◌, Option}
use Rattle.c_lexer.specs.declared.token.Kind.{Kind}
use Rattle.c_scopes.specs.Scopes.{Declared, OpenScopes, declarations_in}
use Rattle.c_scopes.specs.Events.{Event}
use Rattle.c_tree.specs.declared.tree.Expr.{Expr}
use Rattle.c_tree.specs.declared.tree.Declaration.{Declaration}
use Rattle.c_tree.specs.Depths.{IsFormedExpr, IsFormedDeclaration}
use Rattle.expression_trees.specs.Saying.{AreMet}
use Rattle.expression_trees.specs.Trees.{of_expr}
use Rattle.statement_trees.specs.Trees.{of_declaration}

-- The scopes, with these declarations in the innermost one, the latest first.
abbrev pub declaring : List Declared → OpenScopes → OpenScopes
declaring more scopes =
    record { innermost = more ++ scopes.innermost; around = scopes.around }

abbrev pub AreAlike : OpenScopes → OpenScopes → Type 0
AreAlike s t = declarations_in t ≡ declarations_in s

-- Some names are declared in the innermost scope, in whatever alike scopes.
pub record IsFree (events : List Event) : Type 0 where
  pub free : (s end : OpenScopes) → AreMet s events end →
      (more : List Declared) × (end ≡ declaring more s) ×
      ((t : OpenScopes) → AreAlike s t → AreMet t events (declaring more t))

-- What is met in expressions and declarations of the forms is so.
pub record AreFree (kind_of : ℕ → Option Kind) (bytes_of : ℕ → List ℕ) : Type 0 where
  pub expr : (depth : ℕ) (x : Expr) → IsFormedExpr kind_of depth x →
      IsFree (of_expr kind_of bytes_of x).events
  pub declaration : (depth : ℕ) (x : Declaration) → IsFormedDeclaration kind_of depth x →
      IsFree (of_declaration kind_of bytes_of x).events
