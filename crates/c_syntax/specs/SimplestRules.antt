-- Rules of expressions whose type names are the simplest ones, and whose items of initialiser
-- lists are values (C11 6.5).

use Rattle.std.specs.Prelude.{ℕ, suc}
use Rattle.c_tree.specs.declared.tree.Expr.{Expr}
use Rattle.c_tree.specs.declared.tree.Assign.{Assign}
use Rattle.c_tree.specs.declared.tree.InitItem.{InitItem}
use Rattle.reading.specs.Rules.{◌>>=◌, pure}
use Rattle.reading.specs.Nesting.{nested}
use Rattle.c_syntax.specs.Scoping.{Part}
use Rattle.c_syntax.specs.Forms.{value_item}
use Rattle.c_syntax.specs.Inner.{Inner}
use Rattle.c_syntax.specs.TypeNameRules.{type_name}
use Rattle.c_syntax.specs.ExpressionRules.{whole, inner_expr}

-- An item that is one value (6.7.9).
unfoldable pub item : Part Assign → Part InitItem
item inner = do
  value ← inner
  pure (value_item value)

-- What an expression on the level holds in brackets, by its assignment expressions.
abbrev pub simplest : ℕ → ℕ → Part Assign → Inner
simplest turns level inner =
    record { assign = inner; type_name = type_name turns (suc level); item = item inner }

-- An assignment expression of at most so many turns (6.5.16). Those that it holds in brackets, or
-- between `?` and `:`, are one level deeper.
abbrev pub assign_body : Prim.Unit {0} → ℕ → ℕ → (Prim.Unit {0} → Part Assign) → Part Assign
assign_body name turns level inner = whole turns level (simplest turns level (inner name))

unfoldable pub assign : ℕ → ℕ → Part Assign
assign turns level = nested assign_body turns level tt

-- An expression, with its own commas on the level.
unfoldable pub expr : ℕ → ℕ → Part Expr
expr turns level = inner_expr turns level (assign turns level)
