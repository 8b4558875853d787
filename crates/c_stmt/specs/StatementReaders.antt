-- Readers of statements and blocks (C11 6.8). There is room for tokens of the level, and what
-- stands in braces or is a body is read one level deeper.

use Rattle.std.specs.Prelude.{ℕ, ◌-◌, Bool, true, false, List, [], ◌∷◌, Some, None}
use Rattle.c_lexer.specs.declared.keyword.TheConstants.{KEY_BREAK, KEY_CASE, KEY_CONTINUE}
use Rattle.c_lexer.specs.declared.keyword.TheConstants.{KEY_DEFAULT, KEY_DO, KEY_ELSE, KEY_FOR}
use Rattle.c_lexer.specs.declared.keyword.TheConstants.{KEY_GOTO, KEY_IF, KEY_RETURN, KEY_SWITCH}
use Rattle.c_lexer.specs.declared.keyword.TheConstants.{KEY_WHILE}
use Rattle.c_lexer.specs.declared.mark.TheConstants.{MARK_LEFT_PAREN, MARK_RIGHT_PAREN}
use Rattle.c_lexer.specs.declared.mark.TheConstants.{MARK_LEFT_BRACE, MARK_RIGHT_BRACE}
use Rattle.c_lexer.specs.declared.mark.TheConstants.{MARK_COLON, MARK_SEMICOLON}
use Rattle.c_tree.specs.declared.tree.Block.{Block}
use Rattle.c_tree.specs.declared.tree.BlockItem.{BlockItem}
use Rattle.c_tree.specs.declared.tree.BlockItem.TheVariants as item_
use Rattle.c_tree.specs.declared.tree.StmtKind.TheVariants as kind
use Rattle.c_tree.specs.declared.tree.Mark.{Mark}
use Rattle.c_tree.specs.declared.tree.ForInit.{ForInit}
use Rattle.c_tree.specs.declared.tree.ForInit.TheVariants as init_
use Rattle.c_scopes.specs.Scopes.{entered, left}
use Rattle.reading.specs.declared.turn.Turn.{Turn}
use Rattle.reading.specs.declared.turn.Turn.TheVariants.{Again, Done}
use Rattle.reading.specs.Readers.{◌>>=◌, pure, changes, repeat}
use Rattle.c_syntax.specs.Scoping.{PartReader, terminal_of}
use Rattle.c_syntax.specs.Sets.{a_name, any_name, a_typedef_name}
use Rattle.c_syntax.specs.Steps.{expect_among, expect_mark, expect_key, where_among, where_mark}
use Rattle.c_syntax.specs.Steps.{where_key}
use Rattle.c_stmt.specs.declared.forms.Kinded.{Kinded}
use Rattle.c_stmt.specs.declared.forms.Ended.{Ended}
use Rattle.c_stmt.specs.declared.forms.BlockItems.{BlockItems}
use Rattle.c_stmt.specs.declared.forms.Arm.{Arm}
use Rattle.c_stmt.specs.declared.forms.Arms.{Arms}
use Rattle.c_stmt.specs.declared.forms.MaybeExpr.{MaybeExpr}
use Rattle.c_stmt.specs.Choices.{by_second}
use Rattle.c_stmt.specs.StatementSets.{a_colon, begins_expr, a_statement_mark, begins_plain}
use Rattle.c_stmt.specs.Below.{BelowReaders, InsideReaders}
use Rattle.c_stmt.specs.StatementForms.{closed, ended_of, with_label, with_case, with_default}
use Rattle.c_stmt.specs.StatementForms.{no_items, with_item, block_of, arm_of, first_arms, with_arm}
use Rattle.c_stmt.specs.StatementForms.{arms_to, without_else, with_else, switch_of}
use Rattle.c_stmt.specs.StatementForms.{while_of, do_of}
use Rattle.c_stmt.specs.StatementForms.{maybe_expr, for_head, for_of}

-- A scope begins.
abbrev pub enter : PartReader (Prim.Unit {0})
enter = changes entered tt

-- A part in a scope of its own (6.2.1p4).
abbrev pub in_scope : {A : Type 0} → PartReader A → PartReader A
in_scope X = do
  begun ← enter
  value ← X
  changes left value

module _ (below : BelowReaders) (room : ℕ) (inner : InsideReaders) where
  -- ---- Blocks (6.8.2)

  unfoldable pub last_item : BlockItems → PartReader (Turn BlockItems Block)
  last_item items = do
    right ← expect_mark MARK_RIGHT_BRACE (room - 1)
    pure (Done (block_of items right))

  unfoldable pub next_item : BlockItems → PartReader (Turn BlockItems Block)
  next_item items = do
    next ← inner.item
    pure (Again (with_item items next))

  unfoldable pub item_turn : BlockItems → PartReader (Turn BlockItems Block)
  item_turn items = where_mark MARK_RIGHT_BRACE (last_item items) (next_item items)

  unfoldable pub all_items : BlockItems → PartReader Block
  all_items = repeat item_turn

  unfoldable pub block : PartReader Block
  block = do
    left ← expect_mark MARK_LEFT_BRACE (room - 1)
    in_scope (all_items (no_items left))

  unfoldable pub braced : PartReader Kinded
  braced = do
    all ← block
    pure (closed (kind.Braced all))

  -- ---- Bodies of statements, which are scopes (6.8.4p3, 6.8.5p5)

  -- One that is no block is one level deeper.
  unfoldable pub unbraced : PartReader Ended
  unbraced = in_scope inner.statement

  unfoldable pub braced_body : PartReader Ended
  braced_body = do
    kinded ← braced
    pure (ended_of [] kinded)

  unfoldable pub body : PartReader Ended
  body = where_mark MARK_LEFT_BRACE braced_body unbraced

  -- ---- Expressions and nothing (6.8.3)

  unfoldable pub empty : PartReader Kinded
  empty = do
    semicolon ← expect_mark MARK_SEMICOLON room
    pure (closed (kind.Empty (semicolon ∷ [])))

  unfoldable pub value : PartReader Kinded
  value = do
    expr ← below.expr room
    semicolon ← expect_mark MARK_SEMICOLON room
    pure (closed (kind.Value expr (semicolon ∷ [])))

  -- ---- Selection (6.8.4)

  -- A condition in parentheses, and its body.
  unfoldable pub arm : PartReader Arm
  arm = do
    left ← expect_mark MARK_LEFT_PAREN (room - 1)
    cond ← below.expr (room - 1)
    right ← expect_mark MARK_RIGHT_PAREN (room - 1)
    ended ← body
    pure (arm_of cond ended left right)

  unfoldable pub next_arm : Arms → ℕ → PartReader (Turn Arms Kinded)
  next_arm arms else_ = do
    key ← expect_key KEY_IF room
    pure (Again (arms_to arms (else_ ∷ key ∷ [])))

  unfoldable pub last_body : Arms → ℕ → PartReader (Turn Arms Kinded)
  last_body arms else_ = do
    ended ← body
    pure (Done (with_else arms else_ ended))

  -- An `if` behind `else` is a further arm.
  unfoldable pub else_part : Arms → PartReader (Turn Arms Kinded)
  else_part arms = do
    else_ ← expect_key KEY_ELSE room
    where_key KEY_IF (next_arm arms else_) (last_body arms else_)

  -- Behind a body that ends in an `if` without `else` none stands: it would belong to that (p3).
  abbrev pub behind_arm : Bool → Arms → PartReader (Turn Arms Kinded)
  behind_arm true arms = pure (Done (without_else arms))
  behind_arm false arms = where_key KEY_ELSE (else_part arms) (pure (Done (without_else arms)))

  unfoldable pub arm_turn : Arms → PartReader (Turn Arms Kinded)
  arm_turn arms = do
    next ← arm
    behind_arm next.body.dangles (with_arm arms next)

  unfoldable pub all_arms : Arms → PartReader Kinded
  all_arms = repeat arm_turn

  unfoldable pub if_ : PartReader Kinded
  if_ = do
    key ← expect_key KEY_IF room
    in_scope (all_arms (first_arms key))

  unfoldable pub switch_inside : ℕ → PartReader Kinded
  switch_inside key = do
    next ← arm
    pure (switch_of key next)

  unfoldable pub switch_ : PartReader Kinded
  switch_ = do
    key ← expect_key KEY_SWITCH room
    in_scope (switch_inside key)

  -- ---- Iteration (6.8.5)

  unfoldable pub while_inside : ℕ → PartReader Kinded
  while_inside key = do
    next ← arm
    pure (while_of key next)

  unfoldable pub while_ : PartReader Kinded
  while_ = do
    key ← expect_key KEY_WHILE room
    in_scope (while_inside key)

  unfoldable pub do_inside : ℕ → PartReader Kinded
  do_inside key = do
    ended ← body
    loop_key ← expect_key KEY_WHILE room
    left ← expect_mark MARK_LEFT_PAREN (room - 1)
    cond ← below.expr (room - 1)
    right ← expect_mark MARK_RIGHT_PAREN (room - 1)
    semicolon ← expect_mark MARK_SEMICOLON room
    pure (do_of ended cond (key ∷ loop_key ∷ left ∷ right ∷ semicolon ∷ []))

  unfoldable pub do_ : PartReader Kinded
  do_ = do
    key ← expect_key KEY_DO room
    in_scope (do_inside key)

  unfoldable pub no_init : PartReader ForInit
  no_init = do
    semicolon ← expect_mark MARK_SEMICOLON (room - 1)
    pure (init_.Nothing (semicolon ∷ []))

  unfoldable pub value_init : PartReader ForInit
  value_init = do
    expr ← below.expr (room - 1)
    semicolon ← expect_mark MARK_SEMICOLON (room - 1)
    pure (init_.Value expr (semicolon ∷ []))

  unfoldable pub declared_init : PartReader ForInit
  declared_init = do
    declaration ← below.declaration (room - 1)
    pure (init_.Declare declaration)

  unfoldable pub for_init : PartReader ForInit
  for_init = where_mark MARK_SEMICOLON no_init (where_among begins_expr value_init declared_init)

  unfoldable pub nothing_to : ℕ → PartReader MaybeExpr
  nothing_to number = do
    mark ← expect_mark number (room - 1)
    pure (maybe_expr None mark)

  unfoldable pub expr_to : ℕ → PartReader MaybeExpr
  expr_to number = do
    expr ← below.expr (room - 1)
    mark ← expect_mark number (room - 1)
    pure (maybe_expr (Some expr) mark)

  -- An expression or nothing, up to the mark.
  unfoldable pub maybe_to : ℕ → PartReader MaybeExpr
  maybe_to number = where_mark number (nothing_to number) (expr_to number)

  unfoldable pub for_inside : ℕ → PartReader Kinded
  for_inside key = do
    left ← expect_mark MARK_LEFT_PAREN (room - 1)
    init ← for_init
    cond ← maybe_to MARK_SEMICOLON
    step ← maybe_to MARK_RIGHT_PAREN
    ended ← body
    pure (for_of (for_head key left init cond step) ended)

  unfoldable pub for_ : PartReader Kinded
  for_ = do
    key ← expect_key KEY_FOR room
    in_scope (for_inside key)

  -- ---- Jumps (6.8.6)

  unfoldable pub break_ : PartReader Kinded
  break_ = do
    key ← expect_key KEY_BREAK room
    semicolon ← expect_mark MARK_SEMICOLON room
    pure (closed (kind.Break (key ∷ semicolon ∷ [])))

  unfoldable pub continue_ : PartReader Kinded
  continue_ = do
    key ← expect_key KEY_CONTINUE room
    semicolon ← expect_mark MARK_SEMICOLON room
    pure (closed (kind.Continue (key ∷ semicolon ∷ [])))

  unfoldable pub goto_ : PartReader Kinded
  goto_ = do
    key ← expect_key KEY_GOTO room
    name ← expect_among any_name room
    semicolon ← expect_mark MARK_SEMICOLON room
    pure (closed (kind.Goto name (key ∷ semicolon ∷ [])))

  unfoldable pub return_nothing : ℕ → PartReader Kinded
  return_nothing key = do
    semicolon ← expect_mark MARK_SEMICOLON room
    pure (closed (kind.Return None (key ∷ semicolon ∷ [])))

  unfoldable pub return_value : ℕ → PartReader Kinded
  return_value key = do
    expr ← below.expr room
    semicolon ← expect_mark MARK_SEMICOLON room
    pure (closed (kind.Return (Some expr) (key ∷ semicolon ∷ [])))

  unfoldable pub return_ : PartReader Kinded
  return_ = do
    key ← expect_key KEY_RETURN room
    where_mark MARK_SEMICOLON (return_nothing key) (return_value key)

  -- ---- Statements (6.8)

  -- What begins with a keyword or a mark of its own.
  unfoldable pub kinded : PartReader Kinded
  kinded = where_mark MARK_SEMICOLON empty (where_mark MARK_LEFT_BRACE braced
      (where_key KEY_IF if_ (where_key KEY_WHILE while_ (where_key KEY_DO do_
      (where_key KEY_FOR for_ (where_key KEY_SWITCH switch_ (where_key KEY_BREAK break_
      (where_key KEY_CONTINUE continue_ (where_key KEY_GOTO goto_ return_)))))))))

  unfoldable pub kinded_turn : List Mark → PartReader (Turn (List Mark) Ended)
  kinded_turn labels = do
    all ← kinded
    pure (Done (ended_of labels all))

  unfoldable pub value_turn : List Mark → PartReader (Turn (List Mark) Ended)
  value_turn labels = do
    all ← value
    pure (Done (ended_of labels all))

  -- Labels (6.8.1).
  unfoldable pub case_turn : List Mark → PartReader (Turn (List Mark) Ended)
  case_turn labels = do
    key ← expect_key KEY_CASE room
    constant ← below.constant room
    colon ← expect_mark MARK_COLON room
    pure (Again (with_case labels key constant colon))

  unfoldable pub default_turn : List Mark → PartReader (Turn (List Mark) Ended)
  default_turn labels = do
    key ← expect_key KEY_DEFAULT room
    colon ← expect_mark MARK_COLON room
    pure (Again (with_default labels key colon))

  -- Any name may be a label (6.2.3).
  unfoldable pub name_turn : List Mark → PartReader (Turn (List Mark) Ended)
  name_turn labels = do
    name ← expect_among any_name room
    colon ← expect_mark MARK_COLON room
    pure (Again (with_label labels name colon))

  unfoldable pub keyed_turn : List Mark → PartReader (Turn (List Mark) Ended)
  keyed_turn labels = where_key KEY_CASE (case_turn labels)
      (where_key KEY_DEFAULT (default_turn labels) (kinded_turn labels))

  unfoldable pub other_turn : List Mark → PartReader (Turn (List Mark) Ended)
  other_turn labels = where_among a_statement_mark (keyed_turn labels) (value_turn labels)

  unfoldable pub turn : List Mark → PartReader (Turn (List Mark) Ended)
  turn labels = by_second terminal_of a_name a_colon a_typedef_name
      (name_turn labels) (other_turn labels)

  -- Labels, and what they stand before.
  unfoldable pub statement : PartReader Ended
  statement = repeat turn []

  -- ---- Items of blocks (6.8.2)

  unfoldable pub statement_item : PartReader BlockItem
  statement_item = do
    ended ← statement
    pure (item_.Do ended.stmt)

  unfoldable pub declaration_item : PartReader BlockItem
  declaration_item = do
    declaration ← below.declaration room
    pure (item_.Declare declaration)

  unfoldable pub item : PartReader BlockItem
  item = by_second terminal_of a_typedef_name a_colon begins_plain
      statement_item declaration_item
