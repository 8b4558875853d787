-- Statements declare names in their innermost scope alone, if what they are made of does.

use Rattle.std.proofs.Common.{ℕ, zero, suc, List, [], ◌∷◌, Option, Some, None, map, sym, ap, ◌∙◌, subst}
use Rattle.std.specs.Prelude.{IfSome}
use Rattle.std.specs.List.{flat_map}
use Rattle.c_lexer.specs.declared.token.Kind.{Kind}
use Rattle.c_tree.specs.declared.tree.Expr.{Expr}
use Rattle.c_tree.specs.declared.tree.Declaration.{Declaration}
use Rattle.c_tree.specs.declared.tree.Block.{Block}
use Rattle.c_tree.specs.declared.tree.BlockItem.{BlockItem, roll-BlockItem, out-BlockItem, roll-out-BlockItem}
use Rattle.c_tree.specs.declared.tree.BlockItem.TheOpen as s
use Rattle.c_tree.specs.declared.tree.BlockItem.TheVariants as item_
use Rattle.c_tree.specs.declared.tree.Stmt.{Stmt}
use Rattle.c_tree.specs.declared.tree.StmtKind.{roll-StmtKind, out-StmtKind, roll-out-StmtKind}
use Rattle.c_tree.specs.declared.tree.StmtKind.TheVariants as kind
use Rattle.c_tree.specs.declared.tree.Mark.{Mark}
use Rattle.c_tree.specs.declared.tree.Mark.TheVariants as mark_
use Rattle.c_tree.specs.declared.tree.ForInit.{ForInit}
use Rattle.c_tree.specs.declared.tree.ForInit.TheVariants as init_
use Rattle.c_tree.specs.Folds.{OpenStmtKind, OpenBlockItem, stmt_kind_fold, block_item_fold}
use Rattle.c_tree.specs.Depths.{IsFormedExpr, IsFormedDeclaration}
use Rattle.c_tree.specs.Statements.{IsLabel, IsForInit, IsIf, IsIfStatement, IsStmtKind, IsStmt, IsBlockItem, IsFormedStmt, IsFormedBlock}
use Rattle.c_tree.specs.TreeEvents.{Events, label_events, for_init_events, some_events, scoped, expr_events, declaration_events}
use Rattle.c_tree.proofs.Folds as fold
use Rattle.expression_trees.specs.Trees.{of_expr}
use Rattle.expression_trees.proofs.Lists.{Every, every_of}
use Rattle.statement_trees.specs.Trees.{stmt_steps_of, of_declaration, of_stmt, of_block}
use Rattle.statement_trees.specs.Forms.{IsFormedItem}
use Rattle.statement_trees.specs.Innermost.{IsFree}
use Rattle.statement_trees.proofs.Scoped.{IsShut, free_none, free_then, free_shut, shut_scoped}
use Rattle.statement_trees.proofs.Chains.{Branch, Steps, Tail, arms_in, tail_stmt, by_chain, IsFreeBranch, IsFreeTail, same_if, if_met}

module _ (kind_of : ℕ → Option Kind) (bytes_of : ℕ → List ℕ)
    (free_expr : (depth : ℕ) (e : Expr) → IsFormedExpr kind_of depth e → IsFree (of_expr kind_of bytes_of e).events)
    (free_declaration : (depth : ℕ) (x : Declaration) → IsFormedDeclaration kind_of depth x → IsFree (of_declaration kind_of bytes_of x).events) where
  free_each : {A : Type 0} (f : A → Events) (xs : List A) → Every (λ (x : A). IsFree (f x)) xs → IsFree (flat_map f xs)
  free_each f [] g = free_none
  free_each f (x ∷ xs) g = free_then (f x) (flat_map f xs) g.0 (free_each f xs g.1)

  free_scoped : (events : Events) → IsFree events → IsFree (scoped events)
  free_scoped events g = free_shut (scoped events) (shut_scoped events g)

  module _ (m : ℕ) (inside : (x : Stmt) → IsFormedStmt kind_of m x → IsFree (of_stmt kind_of bytes_of x).events) where
    free_label : (x : Mark) → IsLabel kind_of m x → IsFree (label_events kind_of bytes_of x)
    unfolding expr_events
    free_label (mark_.Label n marks) g = free_none
    free_label (mark_.Case e marks) g = free_expr m e g.0.single.form
    free_label (mark_.Default n marks) g = free_none

    free_init : (x : ForInit) → IsForInit kind_of m x → IsFree (for_init_events kind_of bytes_of x)
    unfolding expr_events declaration_events
    free_init (init_.Nothing marks) g = free_none
    free_init (init_.Value e marks) g = free_expr m e g.0
    free_init (init_.Declare x) g = free_declaration m x g

    free_some : (x : Option Expr) → IfSome x (IsFormedExpr kind_of m) → IsFree (some_events kind_of bytes_of x)
    unfolding expr_events
    free_some None g = free_none
    free_some (Some e) g = free_expr m e g

    free_arms : (ss : Steps) (last : Branch) → Every (λ (x : Expr × Stmt). IsFormedExpr kind_of m x.0) (arms_in ss last) → Every (λ (x : Expr × Stmt). IsFormedStmt kind_of m x.1) (arms_in ss last) →
        Every (λ (x : Branch × ℕ). IsFreeBranch kind_of bytes_of x.0) ss × IsFreeBranch kind_of bytes_of last
    free_arms [] last g h = (tt, (free_expr m last.cond g.0, inside last.body h.0))
    free_arms (x ∷ ss) last g h = let r = free_arms ss last g.1 h.1 in (((free_expr m x.0.cond g.0, inside x.0.body h.0), r.0), r.1)

    free_tail : (tail : Tail) → IfSome (tail_stmt tail) (λ (x : Stmt). IsFormedStmt kind_of m x × ¬ IsIf x) → IsFreeTail kind_of bytes_of tail
    free_tail None g = tt
    free_tail (Some t) g = inside t.1 g.0

    free_if : (arms : List (Expr × Stmt)) (other : Option Stmt) (marks : List ℕ) → IsIfStatement kind_of m (IsFormedStmt kind_of m) arms other marks → IsFree (stmt_kind_fold (stmt_steps_of kind_of bytes_of) (kind.If arms other marks))
    free_if arms other marks g =
        by_chain (λ bs o ms. IsIfStatement kind_of m (IsFormedStmt kind_of m) bs o ms → IsFree (stmt_kind_fold (stmt_steps_of kind_of bytes_of) (kind.If bs o ms)))
        (λ ss last tail h.
        let r = free_arms ss last (every_of (λ (x : Expr × Stmt). IsFormedExpr kind_of m x.0) (arms_in ss last) h.conditions) (every_of (λ (x : Expr × Stmt). IsFormedStmt kind_of m x.1) (arms_in ss last) h.bodies) in
        subst IsFree (sym (if_met kind_of bytes_of ss last tail)) (free_shut _ (same_if kind_of bytes_of ss last tail r.0 r.1 (free_tail tail h.otherwise)).shut))
        arms other marks g.some g.fixed g

    free_item : (x : OpenBlockItem) → IsBlockItem kind_of m (IsFormedStmt kind_of m) x → IsFree (block_item_fold (stmt_steps_of kind_of bytes_of) (roll-BlockItem x))
    unfolding declaration_events
    free_item (s.BlockItem-F.Declare x) g = subst IsFree (sym (ap (block_item_fold (stmt_steps_of kind_of bytes_of)) (item_.rolls-Declare x) ∙ fold.block_item_declare_folds (stmt_steps_of kind_of bytes_of) x)) (free_declaration m x g)
    free_item (s.BlockItem-F.Do x) g = subst IsFree (sym (ap (block_item_fold (stmt_steps_of kind_of bytes_of)) (item_.rolls-Do x) ∙ fold.block_item_do_folds (stmt_steps_of kind_of bytes_of) x)) (inside x g)

    free_items : (xs : List BlockItem) → Every (IsFormedItem kind_of bytes_of m) xs → IsFree (flat_map (λ (z : Events). z) (map (block_item_fold (stmt_steps_of kind_of bytes_of)) xs))
    free_items [] g = free_none
    free_items (x ∷ xs) g = free_then _ _ (subst (λ z. IsFree (block_item_fold (stmt_steps_of kind_of bytes_of) z)) (roll-out-BlockItem x) (free_item (out-BlockItem x) g.0)) (free_items xs g.1)

    block_shut : (b : Block) → IsFormedBlock kind_of m b → IsShut (of_block kind_of bytes_of b).events
    block_shut b g = subst IsShut (sym (fold.block_folds (stmt_steps_of kind_of bytes_of) b)) (shut_scoped _ (free_items b.items (every_of (IsFormedItem kind_of bytes_of m) b.items g.items)))

    free_kind : (x : OpenStmtKind) → IsStmtKind kind_of m (IsFormedStmt kind_of m) x → IsFree (stmt_kind_fold (stmt_steps_of kind_of bytes_of) (roll-StmtKind x))
    unfolding expr_events
    free_kind (s.StmtKind-F.Empty marks) g = subst IsFree (sym (ap (stmt_kind_fold (stmt_steps_of kind_of bytes_of)) (kind.rolls-Empty marks) ∙ fold.stmt_kind_empty_folds (stmt_steps_of kind_of bytes_of) marks)) free_none
    free_kind (s.StmtKind-F.Value e marks) g = subst IsFree (sym (ap (stmt_kind_fold (stmt_steps_of kind_of bytes_of)) (kind.rolls-Value e marks) ∙ fold.stmt_kind_value_folds (stmt_steps_of kind_of bytes_of) e marks)) (free_expr m e g.0)
    free_kind (s.StmtKind-F.Braced b) g = subst IsFree (sym (ap (stmt_kind_fold (stmt_steps_of kind_of bytes_of)) (kind.rolls-Braced b) ∙ fold.stmt_kind_braced_folds (stmt_steps_of kind_of bytes_of) b)) (free_shut _ (block_shut b g))
    free_kind (s.StmtKind-F.If arms other marks) g = subst IsFree (sym (ap (stmt_kind_fold (stmt_steps_of kind_of bytes_of)) (kind.rolls-If arms other marks))) (free_if arms other marks g)
    free_kind (s.StmtKind-F.While e x marks) g = subst IsFree (sym (ap (stmt_kind_fold (stmt_steps_of kind_of bytes_of)) (kind.rolls-While e x marks) ∙ fold.stmt_kind_while_folds (stmt_steps_of kind_of bytes_of) e x marks))
        (free_scoped _ (free_then _ _ (free_expr m e g.0) (free_scoped _ (inside x g.1))))
    free_kind (s.StmtKind-F.DoWhile x e marks) g = subst IsFree (sym (ap (stmt_kind_fold (stmt_steps_of kind_of bytes_of)) (kind.rolls-DoWhile x e marks) ∙ fold.stmt_kind_do_while_folds (stmt_steps_of kind_of bytes_of) x e marks))
        (free_scoped _ (free_then _ _ (free_scoped _ (inside x g.0)) (free_expr m e g.1)))
    free_kind (s.StmtKind-F.For i c t x marks) g = subst IsFree (sym (ap (stmt_kind_fold (stmt_steps_of kind_of bytes_of)) (kind.rolls-For i c t x marks) ∙ fold.stmt_kind_for_folds (stmt_steps_of kind_of bytes_of) i c t x marks))
        (free_scoped _ (free_then _ _ (free_init i g.0) (free_then _ _ (free_some c g.1) (free_then _ _ (free_some t g.2) (free_scoped _ (inside x g.3))))))
    free_kind (s.StmtKind-F.Switch e x marks) g = subst IsFree (sym (ap (stmt_kind_fold (stmt_steps_of kind_of bytes_of)) (kind.rolls-Switch e x marks) ∙ fold.stmt_kind_switch_folds (stmt_steps_of kind_of bytes_of) e x marks))
        (free_scoped _ (free_then _ _ (free_expr m e g.0) (free_scoped _ (inside x g.1))))
    free_kind (s.StmtKind-F.Break marks) g = subst IsFree (sym (ap (stmt_kind_fold (stmt_steps_of kind_of bytes_of)) (kind.rolls-Break marks) ∙ fold.stmt_kind_break_folds (stmt_steps_of kind_of bytes_of) marks)) free_none
    free_kind (s.StmtKind-F.Continue marks) g = subst IsFree (sym (ap (stmt_kind_fold (stmt_steps_of kind_of bytes_of)) (kind.rolls-Continue marks) ∙ fold.stmt_kind_continue_folds (stmt_steps_of kind_of bytes_of) marks)) free_none
    free_kind (s.StmtKind-F.Goto x marks) g = subst IsFree (sym (ap (stmt_kind_fold (stmt_steps_of kind_of bytes_of)) (kind.rolls-Goto x marks) ∙ fold.stmt_kind_goto_folds (stmt_steps_of kind_of bytes_of) x marks)) free_none
    free_kind (s.StmtKind-F.Return e marks) g = subst IsFree (sym (ap (stmt_kind_fold (stmt_steps_of kind_of bytes_of)) (kind.rolls-Return e marks) ∙ fold.stmt_kind_return_folds (stmt_steps_of kind_of bytes_of) e marks)) (free_some e g.0)

    free_labels : (xs : List Mark) → Every (IsLabel kind_of m) xs → IsFree (flat_map (label_events kind_of bytes_of) xs)
    free_labels [] g = free_none
    free_labels (x ∷ xs) g = free_then _ _ (free_label x g.0) (free_labels xs g.1)

    free_at : (x : Stmt) → IsStmt kind_of m (IsFormedStmt kind_of m) x → IsFree (of_stmt kind_of bytes_of x).events
    free_at x g = subst IsFree (sym (fold.stmt_folds (stmt_steps_of kind_of bytes_of) x)) (free_then _ _ (free_labels x.labels (every_of (IsLabel kind_of m) x.labels g.labels))
        (subst (λ z. IsFree (stmt_kind_fold (stmt_steps_of kind_of bytes_of) z)) (roll-out-StmtKind x.kind) (free_kind (out-StmtKind x.kind) g.kind)))

  pub free_stmt : (depth : ℕ) (x : Stmt) → IsFormedStmt kind_of depth x → IsFree (of_stmt kind_of bytes_of x).events
  unfolding IsFormedStmt
  free_stmt zero x g = absurd g
  free_stmt (suc m) x g = free_at m (free_stmt m) x g

  pub shut_block : (depth : ℕ) (b : Block) → IsFormedBlock kind_of depth b → IsShut (of_block kind_of bytes_of b).events
  shut_block m b g = block_shut m (free_stmt m) b g
