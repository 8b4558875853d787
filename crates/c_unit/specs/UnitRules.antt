-- Rules of files (C11 6.9). A rule of so many turns has at most so many items in its lists, and
-- nests at most so deep.

use Rattle.std.specs.Prelude.{ℕ, List, [], ◌∷◌, ◌++◌}
use Rattle.c_tree.specs.declared.tree.Block.{Block}
use Rattle.c_tree.specs.declared.tree.Item.{Item}
use Rattle.c_tree.specs.declared.tree.Item.TheVariants as item_
use Rattle.c_tree.specs.declared.tree.Unit.{Unit}
use Rattle.c_scopes.specs.Scopes.{Declared, OpenScopes}
use Rattle.reading.specs.Rules.{◌>>=◌, ◌or◌, pure, changes, many}
use Rattle.c_syntax.specs.Scoping.{Part}
use Rattle.c_stmt.specs.Below.{Below}
use Rattle.c_stmt.specs.Statements.{block}
use Rattle.c_unit.specs.declared.forms.Head.{Head}

abbrev pub defined : Head → Block → Item
defined head body = item_.Define head.specs head.declarator body

-- The scopes behind a function. Its head leaves two open: that of its own parameters, and in it one
-- of what is declared in the rest of the declarator, the name of the function last. With the body
-- that of the parameters ends, and the other declarations hold in the scope around it (6.2.1p4).
abbrev pub joined : List Declared → List (List Declared) → OpenScopes
joined rest [] = record { innermost = rest; around = [] }
joined rest (parameters ∷ []) = record { innermost = rest; around = [] }
joined rest (parameters ∷ scope ∷ around) =
    record { innermost = rest ++ scope; around = around }

abbrev pub behind_function : OpenScopes → OpenScopes
behind_function scopes = joined scopes.innermost scopes.around

module _ (below : Below) (head : ℕ → Part Head) (turns : ℕ) where
  -- ---- Function definitions (6.9.1)

  unfoldable pub definition : Part Item
  definition = do
    begun ← head turns
    body ← block below turns 0
    changes behind_function (defined begun body)

  -- ---- External declarations (6.9)

  unfoldable pub declaration_item : Part Item
  declaration_item = do
    declaration ← below.declaration turns 0
    pure (item_.Declare declaration)

  unfoldable pub external : Part Item
  external = definition or declaration_item

  unfoldable pub more_items : List Item → Part (List Item)
  more_items items = do
    next ← external
    pure (items ++ next ∷ [])

  unfoldable pub all_items : Part (List Item)
  all_items = many turns more_items []

  -- A file may be empty (ours).
  unfoldable pub unit : Part Unit
  unit = do
    all ← all_items
    pure (record { items = all })
