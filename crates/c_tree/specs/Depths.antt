-- The form of expressions, type names, initialisers, declarators and declarations (C11 6.5, 6.7),
-- apart from names. It is asked to a depth: a tree has its form where it has it to some depth.

use Rattle.std.specs.Prelude.{ℕ, zero, suc, Option}
use Rattle.c_lexer.specs.declared.token.Kind.{Kind}
use Rattle.c_tree.specs.declared.tree.Expr.{Expr}
use Rattle.c_tree.specs.declared.tree.TypeName.{TypeName}
use Rattle.c_tree.specs.declared.tree.Declaration.{Declaration, out-Declaration}
use Rattle.c_tree.specs.Shape.{Inner}
use Rattle.c_tree.specs.Expressions.{IsAssign, IsExpr}
use Rattle.c_tree.specs.Declarations.{IsTypeName, IsItem, IsDeclarator, IsMember, IsDeclaration}

module _ (kind_of : ℕ → Option Kind) where
  -- No part has the form to depth 0. To a higher one it has it where its parts have it to the one
  -- below.
  unfoldable pub inner_to : ℕ → Inner
  inner_to zero = record {
    IsAssign = λ assign. ⊥;
    IsTypeName = λ type_name. ⊥;
    IsItem = λ item. ⊥;
    IsDeclarator = λ named declarator. ⊥;
    IsMember = λ declaration. ⊥;
  }
  inner_to (suc depth) = record {
    IsAssign = IsAssign kind_of (inner_to depth);
    IsTypeName = IsTypeName kind_of (inner_to depth);
    IsItem = IsItem kind_of (inner_to depth);
    IsDeclarator = IsDeclarator kind_of (inner_to depth);
    IsMember = λ declaration. IsMember kind_of (inner_to depth) (out-Declaration declaration);
  }

  -- An expression (6.5.17).
  abbrev pub IsFormedExpr : ℕ → Expr → Type 0
  IsFormedExpr depth expr = IsExpr kind_of (inner_to depth) expr

  -- A type name (6.7.7).
  abbrev pub IsFormedTypeName : ℕ → TypeName → Type 0
  IsFormedTypeName depth type_name = IsTypeName kind_of (inner_to depth) type_name

  -- A declaration of a file, a block or a `for` (6.7).
  abbrev pub IsFormedDeclaration : ℕ → Declaration → Type 0
  IsFormedDeclaration depth declaration =
      IsDeclaration kind_of (inner_to depth) (out-Declaration declaration)
