-- Readers of initialisers (C11 6.7.9).

use Rattle.std.specs.Prelude.{ℕ, ◌-◌, List, [], ◌∷◌, ◌++◌}
use Rattle.c_lexer.specs.declared.mark.TheConstants.{MARK_LEFT_BRACKET, MARK_RIGHT_BRACKET}
use Rattle.c_lexer.specs.declared.mark.TheConstants.{MARK_LEFT_BRACE, MARK_RIGHT_BRACE}
use Rattle.c_lexer.specs.declared.mark.TheConstants.{MARK_COMMA, MARK_DOT, MARK_EQUAL}
use Rattle.c_tree.specs.declared.tree.Assign.{Assign}
use Rattle.c_tree.specs.declared.tree.Init.{Init}
use Rattle.c_tree.specs.declared.tree.Init.TheVariants as init
use Rattle.c_tree.specs.declared.tree.InitItem.{InitItem}
use Rattle.c_tree.specs.declared.tree.Designator.{Designator}
use Rattle.c_tree.specs.declared.tree.Designator.TheVariants as designator
use Rattle.c_tree.specs.Forms.{sole}
use Rattle.reading.specs.declared.turn.Turn.{Turn}
use Rattle.reading.specs.declared.turn.Turn.TheVariants.{Again, Done}
use Rattle.reading.specs.Readers.{◌>>=◌, pure, many, repeat}
use Rattle.c_syntax.specs.Scoping.{PartReader, terminal_of}
use Rattle.c_syntax.specs.Sets.{any_name}
use Rattle.c_syntax.specs.Steps.{expect_among, expect_mark, where_among, where_mark}
use Rattle.c_syntax.specs.declared.forms.AssignForm.TheVariants.{Constant}
use Rattle.c_declarations.specs.declared.forms.Items.{Items}
use Rattle.c_specifiers.specs.DeclarationSets.{begins_designator}
use Rattle.c_declarations.specs.DeclarationForms.{first_item, with_item, items_to, item_of}
use Rattle.c_specifiers.specs.Inside.{InsideReaders}

module _ (room : ℕ) (inner : InsideReaders) where
  -- ---- Items in braces

  unfoldable pub last_item : Items → PartReader (Turn Items Items)
  last_item items = do
    right ← expect_mark MARK_RIGHT_BRACE (room - 1)
    pure (Done (items_to items right))

  unfoldable pub next_item : Items → PartReader (Turn Items Items)
  next_item items = do
    item ← inner.item
    pure (Again (with_item items item))

  unfoldable pub comma_item : Items → PartReader (Turn Items Items)
  comma_item items = do
    comma ← expect_mark MARK_COMMA (room - 1)
    where_mark MARK_RIGHT_BRACE (last_item (items_to items comma))
        (next_item (items_to items comma))

  unfoldable pub item_turn : Items → PartReader (Turn Items Items)
  item_turn items = where_mark MARK_COMMA (comma_item items) (last_item items)

  unfoldable pub all_items : Items → PartReader Items
  all_items = repeat item_turn

  -- Behind these marks.
  unfoldable pub braced : List ℕ → PartReader Items
  braced marks = do
    left ← expect_mark MARK_LEFT_BRACE (room - 1)
    first ← inner.item
    all_items (first_item first (marks ++ left ∷ []))

  unfoldable pub init_list : PartReader Init
  init_list = do
    items ← braced []
    pure (init.Items items.list items.marks)

  -- ---- Designators

  unfoldable pub index_designator : PartReader Designator
  index_designator = do
    left ← expect_mark MARK_LEFT_BRACKET (room - 1)
    value ← inner.assign Constant
    right ← expect_mark MARK_RIGHT_BRACKET (room - 1)
    pure (designator.Index (sole value) (left ∷ right ∷ []))

  unfoldable pub field_designator : PartReader Designator
  field_designator = do
    dot ← expect_mark MARK_DOT room
    name ← expect_among any_name room
    pure (designator.Field name (dot ∷ []))

  unfoldable pub one_designator : PartReader Designator
  one_designator = where_mark MARK_LEFT_BRACKET index_designator field_designator

  unfoldable pub more_designators : List Designator → PartReader (List Designator)
  more_designators designators = do
    next ← one_designator
    pure (designators ++ next ∷ [])

  unfoldable pub all_designators : List Designator → PartReader (List Designator)
  all_designators = many terminal_of begins_designator more_designators

  -- One or more.
  unfoldable pub designators : PartReader (List Designator)
  designators = do
    first ← one_designator
    all_designators (first ∷ [])

  -- ---- Initialisers, with assignment expressions on the level

  module _ (value : PartReader Assign) where
    unfoldable pub init_value : PartReader Init
    init_value = do
      assign ← value
      pure (init.Value (sole assign))

    unfoldable pub initialiser : PartReader Init
    initialiser = where_mark MARK_LEFT_BRACE init_list init_value

    unfoldable pub designated_item : PartReader InitItem
    designated_item = do
      path ← designators
      equals ← expect_mark MARK_EQUAL room
      init_ ← initialiser
      pure (item_of path init_ (equals ∷ []))

    unfoldable pub plain_item : PartReader InitItem
    plain_item = do
      init_ ← initialiser
      pure (item_of [] init_ [])

    unfoldable pub item : PartReader InitItem
    item = where_among begins_designator designated_item plain_item
