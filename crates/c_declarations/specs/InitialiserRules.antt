-- Rules of initialisers (C11 6.7.9).

use Rattle.std.specs.Prelude.{ℕ, suc, List, [], ◌∷◌, ◌++◌}
use Rattle.c_lexer.specs.declared.mark.TheConstants.{MARK_LEFT_BRACKET, MARK_RIGHT_BRACKET}
use Rattle.c_lexer.specs.declared.mark.TheConstants.{MARK_LEFT_BRACE, MARK_RIGHT_BRACE}
use Rattle.c_lexer.specs.declared.mark.TheConstants.{MARK_COMMA, MARK_DOT, MARK_EQUAL}
use Rattle.c_tree.specs.declared.tree.Assign.{Assign}
use Rattle.c_tree.specs.declared.tree.Init.{Init}
use Rattle.c_tree.specs.declared.tree.Init.TheVariants as init
use Rattle.c_tree.specs.declared.tree.InitItem.{InitItem}
use Rattle.c_tree.specs.declared.tree.Designator.{Designator}
use Rattle.c_tree.specs.declared.tree.Designator.TheVariants as designator
use Rattle.c_tree.specs.Forms.{sole}
use Rattle.reading.specs.declared.turn.Turn.{Turn}
use Rattle.reading.specs.declared.turn.Turn.TheVariants.{Again, Done}
use Rattle.reading.specs.Rules.{◌>>=◌, ◌or◌, pure, many, repeat}
use Rattle.c_syntax.specs.Scoping.{Part}
use Rattle.c_syntax.specs.Steps.{one_among, one_mark}
use Rattle.c_syntax.specs.Sets.{any_name}
use Rattle.c_syntax.specs.declared.forms.AssignForm.TheVariants.{Constant}
use Rattle.c_declarations.specs.declared.forms.Items.{Items}
use Rattle.c_declarations.specs.DeclarationForms.{first_item, with_item, items_to, item_of}
use Rattle.c_specifiers.specs.Inside.{Inside}

module _ (turns level : ℕ) (inner : Inside) where
  -- ---- Items in braces

  unfoldable pub last_item : Items → Part (Turn Items Items)
  last_item items = do
    right ← one_mark MARK_RIGHT_BRACE (suc level)
    pure (Done (items_to items right))

  unfoldable pub next_item : Items → Part (Turn Items Items)
  next_item items = do
    item ← inner.item
    pure (Again (with_item items item))

  unfoldable pub comma_item : Items → Part (Turn Items Items)
  comma_item items = do
    comma ← one_mark MARK_COMMA (suc level)
    last_item (items_to items comma) or next_item (items_to items comma)

  unfoldable pub item_turn : Items → Part (Turn Items Items)
  item_turn items = comma_item items or last_item items

  unfoldable pub all_items : Items → Part Items
  all_items = repeat turns item_turn

  -- Behind these marks.
  unfoldable pub braced : List ℕ → Part Items
  braced marks = do
    left ← one_mark MARK_LEFT_BRACE (suc level)
    first ← inner.item
    all_items (first_item first (marks ++ left ∷ []))

  unfoldable pub init_list : Part Init
  init_list = do
    items ← braced []
    pure (init.Items items.list items.marks)

  -- ---- Designators

  unfoldable pub index_designator : Part Designator
  index_designator = do
    left ← one_mark MARK_LEFT_BRACKET (suc level)
    value ← inner.assign Constant
    right ← one_mark MARK_RIGHT_BRACKET (suc level)
    pure (designator.Index (sole value) (left ∷ right ∷ []))

  unfoldable pub field_designator : Part Designator
  field_designator = do
    dot ← one_mark MARK_DOT level
    name ← one_among any_name level
    pure (designator.Field name (dot ∷ []))

  unfoldable pub one_designator : Part Designator
  one_designator = index_designator or field_designator

  unfoldable pub more_designators : List Designator → Part (List Designator)
  more_designators designators = do
    next ← one_designator
    pure (designators ++ next ∷ [])

  unfoldable pub all_designators : List Designator → Part (List Designator)
  all_designators = many turns more_designators

  -- One or more.
  unfoldable pub designators : Part (List Designator)
  designators = do
    first ← one_designator
    all_designators (first ∷ [])

  -- ---- Initialisers, with assignment expressions on the level

  module _ (value : Part Assign) where
    unfoldable pub init_value : Part Init
    init_value = do
      assign ← value
      pure (init.Value (sole assign))

    unfoldable pub initialiser : Part Init
    initialiser = init_list or init_value

    unfoldable pub designated_item : Part InitItem
    designated_item = do
      path ← designators
      equals ← one_mark MARK_EQUAL level
      init_ ← initialiser
      pure (item_of path init_ (equals ∷ []))

    unfoldable pub plain_item : Part InitItem
    plain_item = do
      init_ ← initialiser
      pure (item_of [] init_ [])

    unfoldable pub item : Part InitItem
    item = designated_item or plain_item
