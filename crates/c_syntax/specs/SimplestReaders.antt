-- Readers of expressions whose type names are the simplest ones, and whose items of initialiser
-- lists are values (C11 6.5).

use Rattle.std.specs.Prelude.{ℕ, ◌-◌}
use Rattle.c_tree.specs.declared.tree.Expr.{Expr}
use Rattle.c_tree.specs.declared.tree.Assign.{Assign}
use Rattle.c_tree.specs.declared.tree.InitItem.{InitItem}
use Rattle.reading.specs.Readers.{◌>>=◌, pure}
use Rattle.reading.specs.Nesting.{nested_reader}
use Rattle.c_syntax.specs.Scoping.{PartReader}
use Rattle.c_syntax.specs.Forms.{value_item}
use Rattle.c_syntax.specs.Inner.{InnerReaders}
use Rattle.c_syntax.specs.TypeNameReaders.{type_name}
use Rattle.c_syntax.specs.ExpressionReaders.{whole, inner_expr}

-- An item that is one value (6.7.9).
unfoldable pub item : PartReader Assign → PartReader InitItem
item inner = do
  value ← inner
  pure (value_item value)

-- What an expression holds in brackets, where there is room for tokens of its level.
abbrev pub simplest : ℕ → PartReader Assign → InnerReaders
simplest room inner =
    record { assign = inner; type_name = type_name (room - 1); item = item inner }

-- An assignment expression, where fewer levels are left than the number (6.5.16).
abbrev pub assign_body : Prim.Unit {0} → ℕ → (Prim.Unit {0} → PartReader Assign) → PartReader Assign
assign_body name room inner = whole room (simplest room (inner name))

unfoldable pub assign : ℕ → PartReader Assign
assign room = nested_reader assign_body room tt

-- What stands in the brackets of an expression, where so many levels are left there.
abbrev pub simplest_in : ℕ → InnerReaders
simplest_in room = simplest room (assign room)

-- An expression, where fewer levels are left than the number.
unfoldable pub expr : ℕ → PartReader Expr
expr room = inner_expr room (simplest_in room)
