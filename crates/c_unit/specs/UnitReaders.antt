-- Readers of files (C11 6.9).

use Rattle.std.specs.Prelude.{ℕ, Bool, true, false, not, if◌then◌else◌, List, [], ◌∷◌, ◌++◌, Err}
use Rattle.c_tree.specs.declared.tree.Item.{Item}
use Rattle.c_tree.specs.declared.tree.Item.TheVariants as item_
use Rattle.c_tree.specs.declared.tree.Unit.{Unit}
use Rattle.reading.specs.Readers.{◌>>=◌, pure, changes, many, and_then, offends}
use Rattle.c_reading.specs.Kept.{KeptToken}
use Rattle.c_reading.specs.Cursors.{number_ahead}
use Rattle.c_syntax.specs.Scoping.{PartReader, terminal_of}
use Rattle.c_unit.specs.UnitSets.{begins_external}
use Rattle.c_stmt.specs.Below.{BelowReaders}
use Rattle.c_stmt.specs.Statements.{read_block}
use Rattle.c_unit.specs.declared.forms.Head.{Head}
use Rattle.c_unit.specs.Later.{later}
use Rattle.c_unit.specs.UnitRules.{defined, behind_function}

-- The scopes of a function end.
abbrev pub ends_function : {A : Type 0} → A → PartReader A
ends_function value = changes behind_function value

-- Behind the items of a file no token is left.
abbrev pub at_end : Unit → List KeptToken → PartReader Unit
at_end all [] = pure all
at_end all (token ∷ tokens) = λ input. Err (offends input)

module _ (below : BelowReaders) (head : ℕ → PartReader Head) (room : ℕ) where
  unfoldable pub definition : PartReader Item
  definition = do
    begun ← head room
    body ← read_block below room
    ends_function (defined begun body)

  unfoldable pub declaration_item : PartReader Item
  declaration_item = do
    declaration ← below.declaration room
    pure (item_.Declare declaration)

  abbrev pub picked : Bool → PartReader Item
  picked true = definition
  picked false = declaration_item

  -- A definition's own parameters are in scope in the rest of its declarator, those of a
  -- declaration are not. So there are two readings, of which one is tried first.
  abbrev pub read_twice : Bool → PartReader Item
  read_twice first = later (picked first) (picked (not first))

  module _ (is_definition : ℕ → Bool) where
    unfoldable pub external : PartReader Item
    external input = read_twice (is_definition (number_ahead input)) input

    unfoldable pub more_items : List Item → PartReader (List Item)
    more_items items = do
      next ← external
      pure (items ++ next ∷ [])

    unfoldable pub all_items : PartReader (List Item)
    all_items = many terminal_of begins_external more_items []

    unfoldable pub unit : PartReader Unit
    unit = do
      all ← all_items
      pure (record { items = all })

    -- A whole file.
    unfoldable pub file : PartReader Unit
    file input = and_then (unit input) (λ all rest. at_end all rest.tokens rest)
