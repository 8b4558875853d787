-- Rules of statements and blocks (C11 6.8). A rule of so many turns has at most so many items in
-- its lists, and nests at most so deep.

use Rattle.std.specs.Prelude.{ℕ, suc, Bool, true, false, List, [], ◌∷◌, Some, None}
use Rattle.c_lexer.specs.declared.keyword.TheConstants.{KEY_BREAK, KEY_CASE, KEY_CONTINUE}
use Rattle.c_lexer.specs.declared.keyword.TheConstants.{KEY_DEFAULT, KEY_DO, KEY_ELSE, KEY_FOR}
use Rattle.c_lexer.specs.declared.keyword.TheConstants.{KEY_GOTO, KEY_IF, KEY_RETURN, KEY_SWITCH}
use Rattle.c_lexer.specs.declared.keyword.TheConstants.{KEY_WHILE}
use Rattle.c_lexer.specs.declared.mark.TheConstants.{MARK_LEFT_PAREN, MARK_RIGHT_PAREN}
use Rattle.c_lexer.specs.declared.mark.TheConstants.{MARK_LEFT_BRACE, MARK_RIGHT_BRACE}
use Rattle.c_lexer.specs.declared.mark.TheConstants.{MARK_COLON, MARK_SEMICOLON}
use Rattle.c_tree.specs.declared.tree.Block.{Block}
use Rattle.c_tree.specs.declared.tree.BlockItem.{BlockItem}
use Rattle.c_tree.specs.declared.tree.BlockItem.TheVariants as item_
use Rattle.c_tree.specs.declared.tree.StmtKind.TheVariants as kind
use Rattle.c_tree.specs.declared.tree.Mark.{Mark}
use Rattle.c_tree.specs.declared.tree.ForInit.{ForInit}
use Rattle.c_tree.specs.declared.tree.ForInit.TheVariants as init_
use Rattle.c_scopes.specs.Scopes.{entered, left}
use Rattle.reading.specs.declared.turn.Turn.{Turn}
use Rattle.reading.specs.declared.turn.Turn.TheVariants.{Again, Done}
use Rattle.reading.specs.Rules.{◌>>=◌, ◌or◌, pure, changes, repeat}
use Rattle.c_syntax.specs.Scoping.{Part, terminal_of}
use Rattle.c_syntax.specs.Sets.{any_name}
use Rattle.c_syntax.specs.Steps.{one_among, one_mark, one_key}
use Rattle.c_stmt.specs.declared.forms.Kinded.{Kinded}
use Rattle.c_stmt.specs.declared.forms.Ended.{Ended}
use Rattle.c_stmt.specs.declared.forms.BlockItems.{BlockItems}
use Rattle.c_stmt.specs.declared.forms.Arm.{Arm}
use Rattle.c_stmt.specs.declared.forms.Arms.{Arms}
use Rattle.c_stmt.specs.declared.forms.MaybeExpr.{MaybeExpr}
use Rattle.c_stmt.specs.Choices.{without}
use Rattle.c_stmt.specs.StatementSets.{a_left_brace, an_if}
use Rattle.c_stmt.specs.Below.{Below, Inside}
use Rattle.c_stmt.specs.StatementForms.{closed, ended_of, with_label, with_case, with_default}
use Rattle.c_stmt.specs.StatementForms.{no_items, with_item, block_of, arm_of, first_arms, with_arm}
use Rattle.c_stmt.specs.StatementForms.{arms_to, without_else, with_else, switch_of}
use Rattle.c_stmt.specs.StatementForms.{while_of, do_of}
use Rattle.c_stmt.specs.StatementForms.{maybe_expr, for_head, for_of}

-- A scope begins.
abbrev pub entering : Part (Prim.Unit {0})
entering = changes entered tt

-- A part in a scope of its own (6.2.1p4).
abbrev pub in_scope : {A : Type 0} → Part A → Part A
in_scope X = do
  begun ← entering
  value ← X
  changes left value

module _ (below : Below) (turns level : ℕ) (inner : Inside) where
  -- ---- Blocks (6.8.2)

  unfoldable pub last_item : BlockItems → Part (Turn BlockItems Block)
  last_item items = do
    right ← one_mark MARK_RIGHT_BRACE (suc level)
    pure (Done (block_of items right))

  unfoldable pub next_item : BlockItems → Part (Turn BlockItems Block)
  next_item items = do
    next ← inner.item
    pure (Again (with_item items next))

  unfoldable pub item_turn : BlockItems → Part (Turn BlockItems Block)
  item_turn items = last_item items or next_item items

  unfoldable pub all_items : BlockItems → Part Block
  all_items = repeat turns item_turn

  unfoldable pub block : Part Block
  block = do
    left ← one_mark MARK_LEFT_BRACE (suc level)
    in_scope (all_items (no_items left))

  unfoldable pub braced : Part Kinded
  braced = do
    all ← block
    pure (closed (kind.Braced all))

  -- ---- Bodies of statements, which are scopes (6.8.4p3, 6.8.5p5)

  -- One that is no block is one level deeper.
  unfoldable pub unbraced : Part Ended
  unbraced = in_scope inner.statement

  unfoldable pub braced_body : Part Ended
  braced_body = do
    kinded ← braced
    pure (ended_of [] kinded)

  unfoldable pub body : Part Ended
  body = braced_body or without terminal_of a_left_brace unbraced

  -- ---- Expressions and nothing (6.8.3)

  unfoldable pub empty : Part Kinded
  empty = do
    semicolon ← one_mark MARK_SEMICOLON level
    pure (closed (kind.Empty (semicolon ∷ [])))

  unfoldable pub value : Part Kinded
  value = do
    expr ← below.expr turns level
    semicolon ← one_mark MARK_SEMICOLON level
    pure (closed (kind.Value expr (semicolon ∷ [])))

  -- ---- Selection (6.8.4)

  -- A condition in parentheses, and its body.
  unfoldable pub arm : Part Arm
  arm = do
    left ← one_mark MARK_LEFT_PAREN (suc level)
    cond ← below.expr turns (suc level)
    right ← one_mark MARK_RIGHT_PAREN (suc level)
    ended ← body
    pure (arm_of cond ended left right)

  unfoldable pub next_arm : Arms → ℕ → Part (Turn Arms Kinded)
  next_arm arms else_ = do
    key ← one_key KEY_IF level
    pure (Again (arms_to arms (else_ ∷ key ∷ [])))

  unfoldable pub last_body : Arms → ℕ → Part (Turn Arms Kinded)
  last_body arms else_ = do
    ended ← body
    pure (Done (with_else arms else_ ended))

  -- An `if` behind `else` is a further arm.
  unfoldable pub else_part : Arms → Part (Turn Arms Kinded)
  else_part arms = do
    else_ ← one_key KEY_ELSE level
    next_arm arms else_ or without terminal_of an_if (last_body arms else_)

  -- Behind a body that ends in an `if` without `else` none stands: it would belong to that (p3).
  abbrev pub behind_arm : Bool → Arms → Part (Turn Arms Kinded)
  behind_arm true arms = pure (Done (without_else arms))
  behind_arm false arms = else_part arms or (pure (Done (without_else arms)))

  unfoldable pub arm_turn : Arms → Part (Turn Arms Kinded)
  arm_turn arms = do
    next ← arm
    behind_arm next.body.dangles (with_arm arms next)

  unfoldable pub all_arms : Arms → Part Kinded
  all_arms = repeat turns arm_turn

  unfoldable pub if_ : Part Kinded
  if_ = do
    key ← one_key KEY_IF level
    in_scope (all_arms (first_arms key))

  unfoldable pub switch_inside : ℕ → Part Kinded
  switch_inside key = do
    next ← arm
    pure (switch_of key next)

  unfoldable pub switch_ : Part Kinded
  switch_ = do
    key ← one_key KEY_SWITCH level
    in_scope (switch_inside key)

  -- ---- Iteration (6.8.5)

  unfoldable pub while_inside : ℕ → Part Kinded
  while_inside key = do
    next ← arm
    pure (while_of key next)

  unfoldable pub while_ : Part Kinded
  while_ = do
    key ← one_key KEY_WHILE level
    in_scope (while_inside key)

  unfoldable pub do_inside : ℕ → Part Kinded
  do_inside key = do
    ended ← body
    loop_key ← one_key KEY_WHILE level
    left ← one_mark MARK_LEFT_PAREN (suc level)
    cond ← below.expr turns (suc level)
    right ← one_mark MARK_RIGHT_PAREN (suc level)
    semicolon ← one_mark MARK_SEMICOLON level
    pure (do_of ended cond (key ∷ loop_key ∷ left ∷ right ∷ semicolon ∷ []))

  unfoldable pub do_ : Part Kinded
  do_ = do
    key ← one_key KEY_DO level
    in_scope (do_inside key)

  unfoldable pub no_init : Part ForInit
  no_init = do
    semicolon ← one_mark MARK_SEMICOLON (suc level)
    pure (init_.Nothing (semicolon ∷ []))

  unfoldable pub value_init : Part ForInit
  value_init = do
    expr ← below.expr turns (suc level)
    semicolon ← one_mark MARK_SEMICOLON (suc level)
    pure (init_.Value expr (semicolon ∷ []))

  unfoldable pub declared_init : Part ForInit
  declared_init = do
    declaration ← below.declaration turns (suc level)
    pure (init_.Declare declaration)

  unfoldable pub for_init : Part ForInit
  for_init = no_init or value_init or declared_init

  unfoldable pub nothing_to : ℕ → Part MaybeExpr
  nothing_to number = do
    mark ← one_mark number (suc level)
    pure (maybe_expr None mark)

  unfoldable pub expr_to : ℕ → Part MaybeExpr
  expr_to number = do
    expr ← below.expr turns (suc level)
    mark ← one_mark number (suc level)
    pure (maybe_expr (Some expr) mark)

  -- An expression or nothing, up to the mark.
  unfoldable pub maybe_to : ℕ → Part MaybeExpr
  maybe_to number = nothing_to number or expr_to number

  unfoldable pub for_inside : ℕ → Part Kinded
  for_inside key = do
    left ← one_mark MARK_LEFT_PAREN (suc level)
    init ← for_init
    cond ← maybe_to MARK_SEMICOLON
    step ← maybe_to MARK_RIGHT_PAREN
    ended ← body
    pure (for_of (for_head key left init cond step) ended)

  unfoldable pub for_ : Part Kinded
  for_ = do
    key ← one_key KEY_FOR level
    in_scope (for_inside key)

  -- ---- Jumps (6.8.6)

  unfoldable pub break_ : Part Kinded
  break_ = do
    key ← one_key KEY_BREAK level
    semicolon ← one_mark MARK_SEMICOLON level
    pure (closed (kind.Break (key ∷ semicolon ∷ [])))

  unfoldable pub continue_ : Part Kinded
  continue_ = do
    key ← one_key KEY_CONTINUE level
    semicolon ← one_mark MARK_SEMICOLON level
    pure (closed (kind.Continue (key ∷ semicolon ∷ [])))

  unfoldable pub goto_ : Part Kinded
  goto_ = do
    key ← one_key KEY_GOTO level
    name ← one_among any_name level
    semicolon ← one_mark MARK_SEMICOLON level
    pure (closed (kind.Goto name (key ∷ semicolon ∷ [])))

  unfoldable pub return_nothing : ℕ → Part Kinded
  return_nothing key = do
    semicolon ← one_mark MARK_SEMICOLON level
    pure (closed (kind.Return None (key ∷ semicolon ∷ [])))

  unfoldable pub return_value : ℕ → Part Kinded
  return_value key = do
    expr ← below.expr turns level
    semicolon ← one_mark MARK_SEMICOLON level
    pure (closed (kind.Return (Some expr) (key ∷ semicolon ∷ [])))

  unfoldable pub return_ : Part Kinded
  return_ = do
    key ← one_key KEY_RETURN level
    return_nothing key or return_value key

  -- ---- Statements (6.8)

  -- What begins with a keyword or a mark of its own.
  unfoldable pub kinded : Part Kinded
  kinded = empty or braced or if_ or while_ or do_ or for_ or switch_ or break_ or continue_ or
      goto_ or return_

  unfoldable pub kinded_turn : List Mark → Part (Turn (List Mark) Ended)
  kinded_turn labels = do
    all ← kinded
    pure (Done (ended_of labels all))

  unfoldable pub value_turn : List Mark → Part (Turn (List Mark) Ended)
  value_turn labels = do
    all ← value
    pure (Done (ended_of labels all))

  -- Labels (6.8.1).
  unfoldable pub case_turn : List Mark → Part (Turn (List Mark) Ended)
  case_turn labels = do
    key ← one_key KEY_CASE level
    constant ← below.constant turns level
    colon ← one_mark MARK_COLON level
    pure (Again (with_case labels key constant colon))

  unfoldable pub default_turn : List Mark → Part (Turn (List Mark) Ended)
  default_turn labels = do
    key ← one_key KEY_DEFAULT level
    colon ← one_mark MARK_COLON level
    pure (Again (with_default labels key colon))

  -- Any name may be a label (6.2.3).
  unfoldable pub name_turn : List Mark → Part (Turn (List Mark) Ended)
  name_turn labels = do
    name ← one_among any_name level
    colon ← one_mark MARK_COLON level
    pure (Again (with_label labels name colon))

  unfoldable pub keyed_turn : List Mark → Part (Turn (List Mark) Ended)
  keyed_turn labels = case_turn labels or default_turn labels or kinded_turn labels

  unfoldable pub other_turn : List Mark → Part (Turn (List Mark) Ended)
  other_turn labels = keyed_turn labels or value_turn labels

  unfoldable pub turn : List Mark → Part (Turn (List Mark) Ended)
  turn labels = name_turn labels or other_turn labels

  -- Labels, and what they stand before.
  unfoldable pub statement : Part Ended
  statement = repeat turns turn []

  -- ---- Items of blocks (6.8.2)

  unfoldable pub statement_item : Part BlockItem
  statement_item = do
    ended ← statement
    pure (item_.Do ended.stmt)

  unfoldable pub declaration_item : Part BlockItem
  declaration_item = do
    declaration ← below.declaration turns level
    pure (item_.Declare declaration)

  unfoldable pub item : Part BlockItem
  item = statement_item or declaration_item
