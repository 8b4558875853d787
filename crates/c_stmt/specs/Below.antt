-- What statements are made of: rules of expressions and declarations for each number of turns and
-- each level, and their readers for so much room on it.

use Rattle.std.specs.Prelude.{ℕ}
use Rattle.c_tree.specs.declared.tree.Assign.{Assign}
use Rattle.c_tree.specs.declared.tree.Expr.{Expr}
use Rattle.c_tree.specs.declared.tree.Declaration.{Declaration}
use Rattle.c_tree.specs.declared.tree.BlockItem.{BlockItem}
use Rattle.c_syntax.specs.Scoping.{Part, PartReader}
use Rattle.c_stmt.specs.declared.forms.Ended.{Ended}

pub record Below : Type 1 where
  -- An expression (6.5.17).
  pub expr : ℕ → ℕ → Part Expr
  -- A constant expression (6.6).
  pub constant : ℕ → ℕ → Part Assign
  -- A declaration, whose names are declared (6.7).
  pub declaration : ℕ → ℕ → Part Declaration

pub record BelowReaders : Type 0 where
  pub expr : ℕ → PartReader Expr
  pub constant : ℕ → PartReader Assign
  pub declaration : ℕ → PartReader Declaration

-- What a statement holds in braces, or as a body, one level deeper: the rules of it, and their
-- readers.
pub record Inside : Type 1 where
  -- An item of a block (6.8.2).
  pub item : Part BlockItem
  pub statement : Part Ended

pub record InsideReaders : Type 0 where
  pub item : PartReader BlockItem
  pub statement : PartReader Ended
