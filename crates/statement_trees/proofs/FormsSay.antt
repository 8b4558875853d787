-- What the forms of statements say, by their fields, before the rest.

use Rattle.std.proofs.Common.{◌≡◌, ℕ, List, [], ◌∷◌, ◌++◌, Option, Some, None, map, refl, ap, ◌∙◌, append_assoc}
use Rattle.std.specs.List.{flat_map}
use Rattle.c_lexer.specs.declared.token.Kind.{Kind}
use Rattle.c_lexer.specs.declared.keyword.TheConstants.{KEY_BREAK, KEY_CASE, KEY_CONTINUE}
use Rattle.c_lexer.specs.declared.keyword.TheConstants.{KEY_DEFAULT, KEY_DO, KEY_FOR}
use Rattle.c_lexer.specs.declared.keyword.TheConstants.{KEY_GOTO, KEY_RETURN, KEY_SWITCH}
use Rattle.c_lexer.specs.declared.keyword.TheConstants.{KEY_WHILE}
use Rattle.c_lexer.specs.declared.mark.TheConstants.{MARK_LEFT_PAREN, MARK_RIGHT_PAREN}
use Rattle.c_lexer.specs.declared.mark.TheConstants.{MARK_LEFT_BRACE, MARK_RIGHT_BRACE}
use Rattle.c_lexer.specs.declared.mark.TheConstants.{MARK_COLON, MARK_SEMICOLON}
use Rattle.c_scopes.specs.Events.{Opens, Closes}
use Rattle.c_tree.specs.declared.symbol.Want.TheVariants as want
use Rattle.c_tree.specs.declared.tree.Expr.{Expr}
use Rattle.c_tree.specs.declared.tree.Assign.{Assign}
use Rattle.c_tree.specs.declared.tree.Declaration.{Declaration}
use Rattle.c_tree.specs.declared.tree.Block.{Block}
use Rattle.c_tree.specs.declared.tree.BlockItem.{BlockItem}
use Rattle.c_tree.specs.declared.tree.BlockItem.TheVariants as item_
use Rattle.c_tree.specs.declared.tree.Stmt.{Stmt}
use Rattle.c_tree.specs.declared.tree.StmtKind.TheVariants as kind
use Rattle.c_tree.specs.declared.tree.Mark.{Mark}
use Rattle.c_tree.specs.declared.tree.Mark.TheVariants as mark_
use Rattle.c_tree.specs.declared.tree.ForInit.{ForInit}
use Rattle.c_tree.specs.declared.tree.ForInit.TheVariants as init_
use Rattle.c_tree.specs.Forms.{sole}
use Rattle.c_tree.specs.Folds.{stmt_fold, block_item_fold}
use Rattle.c_tree.specs.Spell.{Symbols, joined, expr_spelling, stmt_spelling, block_item_spelling, label_spelling}
use Rattle.c_tree.specs.TreeEvents.{Events, expr_events, declaration_events, label_events}
use Rattle.c_tree.proofs.Folds as fold
use Rattle.c_tree.proofs.Spellings as spell
use Rattle.expression_trees.specs.Saying.{Said, ◌and◌, token}
use Rattle.expression_trees.specs.Trees.{of_expr, of_assign}
use Rattle.expression_trees.proofs.FormsSay.{same_said, said_of, each, expr_before}
use Rattle.statement_trees.specs.Trees.{stmt_steps_of, of_declaration, of_stmt, of_kind, of_body, of_block, of_item, of_label, of_for_init}

-- A scope begins or ends, and then the rest.
abbrev pub opens : Said → Said
opens k = record { symbols = k.symbols; events = Opens ∷ k.events }

abbrev pub closes : Said → Said
closes k = record { symbols = k.symbols; events = Closes ∷ k.events }

module _ (kind_of : ℕ → Option Kind) (bytes_of : ℕ → List ℕ) where
  -- ---- Lists of parts

  labels_are : (xs : List Mark) (s : Symbols) (e : Events) →
      said_of (joined (map label_spelling xs) ++ s) (flat_map (label_events kind_of bytes_of) xs ++ e) ≡ each (of_label kind_of bytes_of) xs (said_of s e)
  labels_are [] s e = refl
  labels_are (x ∷ xs) s e =
      same_said (append_assoc (label_spelling x) (joined (map label_spelling xs)) s) (append_assoc (label_events kind_of bytes_of x) (flat_map (label_events kind_of bytes_of) xs) e) ∙
      ap (λ (z : Said). of_label kind_of bytes_of x and z) (labels_are xs s e)

  items_are : (xs : List BlockItem) (s : Symbols) (e : Events) →
      said_of (joined (map block_item_spelling xs) ++ s) (flat_map (λ (z : Events). z) (map (block_item_fold (stmt_steps_of kind_of bytes_of)) xs) ++ e) ≡ each (of_item kind_of bytes_of) xs (said_of s e)
  items_are [] s e = refl
  items_are (x ∷ xs) s e =
      same_said (append_assoc (block_item_spelling x) (joined (map block_item_spelling xs)) s)
      (append_assoc (block_item_fold (stmt_steps_of kind_of bytes_of) x) (flat_map (λ (z : Events). z) (map (block_item_fold (stmt_steps_of kind_of bytes_of)) xs)) e) ∙
      ap (λ (z : Said). of_item kind_of bytes_of x and z) (items_are xs s e)

  -- ---- Statements (6.8), and labels (6.8.1)

  pub stmt_before : (s : Stmt) (k : Said) → of_stmt kind_of bytes_of s and k ≡ each (of_label kind_of bytes_of) s.labels (of_kind kind_of bytes_of s.kind and k)
  stmt_before s k =
      same_said
      (ap (λ (z : Symbols). z ++ k.symbols) (spell.stmt_spelling_lem s) ∙ append_assoc (joined (map label_spelling s.labels)) _ k.symbols)
      (ap (λ (z : Events). z ++ k.events) (fold.stmt_folds (stmt_steps_of kind_of bytes_of) s) ∙ append_assoc (flat_map (label_events kind_of bytes_of) s.labels) _ k.events) ∙
      labels_are s.labels _ _

  pub body_before : (s : Stmt) (k : Said) → of_body kind_of bytes_of s and k ≡ opens (of_stmt kind_of bytes_of s and closes k)
  body_before s k = ap (λ (z : Events). said_of (stmt_spelling s ++ k.symbols) (Opens ∷ z)) (append_assoc (stmt_fold (stmt_steps_of kind_of bytes_of) s) (Closes ∷ []) k.events)

  pub label_before : (n c : ℕ) (k : Said) → of_label kind_of bytes_of (mark_.Label n (c ∷ [])) and k ≡ token n want.Word (token c (want.Mark MARK_COLON) k)
  label_before n c k = same_said (ap (λ (z : Symbols). z ++ k.symbols) (spell.label_label_spelling_lem n (c ∷ []))) refl

  pub default_before : (n c : ℕ) (k : Said) → of_label kind_of bytes_of (mark_.Default n (c ∷ [])) and k ≡ token n (want.Key KEY_DEFAULT) (token c (want.Mark MARK_COLON) k)
  default_before n c k = same_said (ap (λ (z : Symbols). z ++ k.symbols) (spell.label_default_spelling_lem n (c ∷ []))) refl

  pub sole_before : (a : Assign) (k : Said) → of_expr kind_of bytes_of (sole a) and k ≡ of_assign kind_of bytes_of a and k
  sole_before a k = expr_before kind_of bytes_of a [] k

  pub case_before : (e : Expr) (n c : ℕ) (k : Said) → of_label kind_of bytes_of (mark_.Case e (n ∷ c ∷ [])) and k ≡
      token n (want.Key KEY_CASE) (of_expr kind_of bytes_of e and token c (want.Mark MARK_COLON) k)
  unfolding expr_events
  case_before e n c k = same_said
      (ap (λ (z : Symbols). z ++ k.symbols) (spell.label_case_spelling_lem e (n ∷ c ∷ [])) ∙ ap (λ (z : Symbols). record { token = n; want = want.Key KEY_CASE } ∷ z) (append_assoc (expr_spelling e) _ k.symbols)) refl

  -- ---- Blocks (6.8.2)

  pub block_before : (items : List BlockItem) (l r : ℕ) (k : Said) → of_block kind_of bytes_of (record { items = items; marks = l ∷ r ∷ [] }) and k ≡
      token l (want.Mark MARK_LEFT_BRACE) (opens (each (of_item kind_of bytes_of) items (token r (want.Mark MARK_RIGHT_BRACE) (closes k))))
  block_before items l r k =
      let x : Block = record { items = items; marks = l ∷ r ∷ [] } in
      let S = stmt_steps_of kind_of bytes_of in
      same_said
      (ap (λ (z : Symbols). z ++ k.symbols) (spell.block_spelling_lem x) ∙ ap (λ (z : Symbols). record { token = l; want = want.Mark MARK_LEFT_BRACE } ∷ z) (append_assoc (joined (map block_item_spelling items)) _ k.symbols))
      (ap (λ (z : Events). z ++ k.events) (fold.block_folds S x) ∙ ap (λ (z : Events). Opens ∷ z) (append_assoc (flat_map (λ (z : Events). z) (map (block_item_fold S) items)) (Closes ∷ []) k.events)) ∙
      ap (λ (z : Said). token l (want.Mark MARK_LEFT_BRACE) (opens z)) (items_are items _ _)

  pub declare_before : (d : Declaration) (k : Said) → of_item kind_of bytes_of (item_.Declare d) and k ≡ of_declaration kind_of bytes_of d and k
  unfolding declaration_events
  declare_before d k = same_said (ap (λ (z : Symbols). z ++ k.symbols) (spell.block_item_declare_spelling_lem d))
      (ap (λ (z : Events). z ++ k.events) (fold.block_item_declare_folds (stmt_steps_of kind_of bytes_of) d))

  pub do_before : (s : Stmt) (k : Said) → of_item kind_of bytes_of (item_.Do s) and k ≡ of_stmt kind_of bytes_of s and k
  do_before s k = same_said (ap (λ (z : Symbols). z ++ k.symbols) (spell.block_item_do_spelling_lem s))
      (ap (λ (z : Events). z ++ k.events) (fold.block_item_do_folds (stmt_steps_of kind_of bytes_of) s))

  -- ---- Expressions and nothing (6.8.3)

  pub empty_before : (m : ℕ) (k : Said) → of_kind kind_of bytes_of (kind.Empty (m ∷ [])) and k ≡ token m (want.Mark MARK_SEMICOLON) k
  empty_before m k = same_said (ap (λ (z : Symbols). z ++ k.symbols) (spell.stmt_kind_empty_spelling_lem (m ∷ [])))
      (ap (λ (z : Events). z ++ k.events) (fold.stmt_kind_empty_folds (stmt_steps_of kind_of bytes_of) (m ∷ [])))

  pub value_before : (e : Expr) (m : ℕ) (k : Said) → of_kind kind_of bytes_of (kind.Value e (m ∷ [])) and k ≡ of_expr kind_of bytes_of e and token m (want.Mark MARK_SEMICOLON) k
  unfolding expr_events
  value_before e m k = same_said (ap (λ (z : Symbols). z ++ k.symbols) (spell.stmt_kind_value_spelling_lem e (m ∷ [])) ∙ append_assoc (expr_spelling e) _ k.symbols)
      (ap (λ (z : Events). z ++ k.events) (fold.stmt_kind_value_folds (stmt_steps_of kind_of bytes_of) e (m ∷ [])))

  pub braced_before : (b : Block) (k : Said) → of_kind kind_of bytes_of (kind.Braced b) and k ≡ of_block kind_of bytes_of b and k
  braced_before b k = same_said (ap (λ (z : Symbols). z ++ k.symbols) (spell.stmt_kind_braced_spelling_lem b))
      (ap (λ (z : Events). z ++ k.events) (fold.stmt_kind_braced_folds (stmt_steps_of kind_of bytes_of) b))

  -- ---- Loops and `switch` (6.8.4.2, 6.8.5)

  pub while_before : (e : Expr) (b : Stmt) (n l r : ℕ) (k : Said) → of_kind kind_of bytes_of (kind.While e b (n ∷ l ∷ r ∷ [])) and k ≡
      token n (want.Key KEY_WHILE) (opens (token l (want.Mark MARK_LEFT_PAREN) (of_expr kind_of bytes_of e and token r (want.Mark MARK_RIGHT_PAREN) (of_body kind_of bytes_of b and closes k))))
  unfolding expr_events
  while_before e b n l r k = same_said
      (ap (λ (z : Symbols). z ++ k.symbols) (spell.stmt_kind_while_spelling_lem e b (n ∷ l ∷ r ∷ [])) ∙ simp append_assoc)
      (ap (λ (z : Events). z ++ k.events) (fold.stmt_kind_while_folds (stmt_steps_of kind_of bytes_of) e b (n ∷ l ∷ r ∷ [])) ∙ simp append_assoc)

  pub switch_before : (e : Expr) (b : Stmt) (n l r : ℕ) (k : Said) → of_kind kind_of bytes_of (kind.Switch e b (n ∷ l ∷ r ∷ [])) and k ≡
      token n (want.Key KEY_SWITCH) (opens (token l (want.Mark MARK_LEFT_PAREN) (of_expr kind_of bytes_of e and token r (want.Mark MARK_RIGHT_PAREN) (of_body kind_of bytes_of b and closes k))))
  unfolding expr_events
  switch_before e b n l r k = same_said
      (ap (λ (z : Symbols). z ++ k.symbols) (spell.stmt_kind_switch_spelling_lem e b (n ∷ l ∷ r ∷ [])) ∙ simp append_assoc)
      (ap (λ (z : Events). z ++ k.events) (fold.stmt_kind_switch_folds (stmt_steps_of kind_of bytes_of) e b (n ∷ l ∷ r ∷ [])) ∙ simp append_assoc)

  pub do_while_before : (b : Stmt) (e : Expr) (n w l r m : ℕ) (k : Said) → of_kind kind_of bytes_of (kind.DoWhile b e (n ∷ w ∷ l ∷ r ∷ m ∷ [])) and k ≡
      token n (want.Key KEY_DO) (opens (of_body kind_of bytes_of b and token w (want.Key KEY_WHILE) (token l (want.Mark MARK_LEFT_PAREN) (of_expr kind_of bytes_of e and
      token r (want.Mark MARK_RIGHT_PAREN) (token m (want.Mark MARK_SEMICOLON) (closes k))))))
  unfolding expr_events
  do_while_before b e n w l r m k = same_said
      (ap (λ (z : Symbols). z ++ k.symbols) (spell.stmt_kind_do_while_spelling_lem b e (n ∷ w ∷ l ∷ r ∷ m ∷ [])) ∙ simp append_assoc)
      (ap (λ (z : Events). z ++ k.events) (fold.stmt_kind_do_while_folds (stmt_steps_of kind_of bytes_of) b e (n ∷ w ∷ l ∷ r ∷ m ∷ [])) ∙ simp append_assoc)

  -- An expression, where it is there, and then the rest.
  abbrev pub maybe : Option Expr → Said → Said
  maybe None k = k
  maybe (Some e) k = of_expr kind_of bytes_of e and k

  pub for_before : (i : ForInit) (c t : Option Expr) (b : Stmt) (n l m r : ℕ) (k : Said) → of_kind kind_of bytes_of (kind.For i c t b (n ∷ l ∷ m ∷ r ∷ [])) and k ≡
      token n (want.Key KEY_FOR) (opens (token l (want.Mark MARK_LEFT_PAREN) (of_for_init kind_of bytes_of i and maybe c (token m (want.Mark MARK_SEMICOLON) (maybe t
      (token r (want.Mark MARK_RIGHT_PAREN) (of_body kind_of bytes_of b and closes k)))))))
  unfolding expr_events
  for_before i None None b n l m r k = same_said
      (ap (λ (z : Symbols). z ++ k.symbols) (spell.stmt_kind_for_spelling_lem i None None b (n ∷ l ∷ m ∷ r ∷ [])) ∙ simp append_assoc)
      (ap (λ (z : Events). z ++ k.events) (fold.stmt_kind_for_folds (stmt_steps_of kind_of bytes_of) i None None b (n ∷ l ∷ m ∷ r ∷ [])) ∙ simp append_assoc)
  for_before i None (Some t) b n l m r k = same_said
      (ap (λ (z : Symbols). z ++ k.symbols) (spell.stmt_kind_for_spelling_lem i None (Some t) b (n ∷ l ∷ m ∷ r ∷ [])) ∙ simp append_assoc)
      (ap (λ (z : Events). z ++ k.events) (fold.stmt_kind_for_folds (stmt_steps_of kind_of bytes_of) i None (Some t) b (n ∷ l ∷ m ∷ r ∷ [])) ∙ simp append_assoc)
  for_before i (Some c) None b n l m r k = same_said
      (ap (λ (z : Symbols). z ++ k.symbols) (spell.stmt_kind_for_spelling_lem i (Some c) None b (n ∷ l ∷ m ∷ r ∷ [])) ∙ simp append_assoc)
      (ap (λ (z : Events). z ++ k.events) (fold.stmt_kind_for_folds (stmt_steps_of kind_of bytes_of) i (Some c) None b (n ∷ l ∷ m ∷ r ∷ [])) ∙ simp append_assoc)
  for_before i (Some c) (Some t) b n l m r k = same_said
      (ap (λ (z : Symbols). z ++ k.symbols) (spell.stmt_kind_for_spelling_lem i (Some c) (Some t) b (n ∷ l ∷ m ∷ r ∷ [])) ∙ simp append_assoc)
      (ap (λ (z : Events). z ++ k.events) (fold.stmt_kind_for_folds (stmt_steps_of kind_of bytes_of) i (Some c) (Some t) b (n ∷ l ∷ m ∷ r ∷ [])) ∙ simp append_assoc)

  pub no_init_before : (m : ℕ) (k : Said) → of_for_init kind_of bytes_of (init_.Nothing (m ∷ [])) and k ≡ token m (want.Mark MARK_SEMICOLON) k
  no_init_before m k = same_said (ap (λ (z : Symbols). z ++ k.symbols) (spell.for_init_nothing_spelling_lem (m ∷ []))) refl

  pub value_init_before : (e : Expr) (m : ℕ) (k : Said) → of_for_init kind_of bytes_of (init_.Value e (m ∷ [])) and k ≡ of_expr kind_of bytes_of e and token m (want.Mark MARK_SEMICOLON) k
  unfolding expr_events
  value_init_before e m k = same_said (ap (λ (z : Symbols). z ++ k.symbols) (spell.for_init_value_spelling_lem e (m ∷ [])) ∙ append_assoc (expr_spelling e) _ k.symbols) refl

  pub declared_init_before : (d : Declaration) (k : Said) → of_for_init kind_of bytes_of (init_.Declare d) and k ≡ of_declaration kind_of bytes_of d and k
  unfolding declaration_events
  declared_init_before d k = same_said (ap (λ (z : Symbols). z ++ k.symbols) (spell.for_init_declare_spelling_lem d)) refl

  -- ---- Jumps (6.8.6)

  pub break_before : (n m : ℕ) (k : Said) → of_kind kind_of bytes_of (kind.Break (n ∷ m ∷ [])) and k ≡ token n (want.Key KEY_BREAK) (token m (want.Mark MARK_SEMICOLON) k)
  break_before n m k = same_said (ap (λ (z : Symbols). z ++ k.symbols) (spell.stmt_kind_break_spelling_lem (n ∷ m ∷ [])))
      (ap (λ (z : Events). z ++ k.events) (fold.stmt_kind_break_folds (stmt_steps_of kind_of bytes_of) (n ∷ m ∷ [])))

  pub continue_before : (n m : ℕ) (k : Said) → of_kind kind_of bytes_of (kind.Continue (n ∷ m ∷ [])) and k ≡ token n (want.Key KEY_CONTINUE) (token m (want.Mark MARK_SEMICOLON) k)
  continue_before n m k = same_said (ap (λ (z : Symbols). z ++ k.symbols) (spell.stmt_kind_continue_spelling_lem (n ∷ m ∷ [])))
      (ap (λ (z : Events). z ++ k.events) (fold.stmt_kind_continue_folds (stmt_steps_of kind_of bytes_of) (n ∷ m ∷ [])))

  pub goto_before : (x n m : ℕ) (k : Said) → of_kind kind_of bytes_of (kind.Goto x (n ∷ m ∷ [])) and k ≡ token n (want.Key KEY_GOTO) (token x want.Word (token m (want.Mark MARK_SEMICOLON) k))
  goto_before x n m k = same_said (ap (λ (z : Symbols). z ++ k.symbols) (spell.stmt_kind_goto_spelling_lem x (n ∷ m ∷ [])))
      (ap (λ (z : Events). z ++ k.events) (fold.stmt_kind_goto_folds (stmt_steps_of kind_of bytes_of) x (n ∷ m ∷ [])))

  pub return_before : (e : Option Expr) (n m : ℕ) (k : Said) → of_kind kind_of bytes_of (kind.Return e (n ∷ m ∷ [])) and k ≡ token n (want.Key KEY_RETURN) (maybe e (token m (want.Mark MARK_SEMICOLON) k))
  unfolding expr_events
  return_before None n m k = same_said (ap (λ (z : Symbols). z ++ k.symbols) (spell.stmt_kind_return_spelling_lem None (n ∷ m ∷ [])))
      (ap (λ (z : Events). z ++ k.events) (fold.stmt_kind_return_folds (stmt_steps_of kind_of bytes_of) None (n ∷ m ∷ [])))
  return_before (Some e) n m k = same_said
      (ap (λ (z : Symbols). z ++ k.symbols) (spell.stmt_kind_return_spelling_lem (Some e) (n ∷ m ∷ [])) ∙ ap (λ (z : Symbols). record { token = n; want = want.Key KEY_RETURN } ∷ z) (append_assoc (expr_spelling e) _ k.symbols))
      (ap (λ (z : Events). z ++ k.events) (fold.stmt_kind_return_folds (stmt_steps_of kind_of bytes_of) (Some e) (n ∷ m ∷ [])))
