-- The parts of which the trees of statements are made (C11 6.8).

use Rattle.std.specs.Prelude.{ℕ, true, false, List, [], ◌∷◌, ◌++◌, Option, Some, None}
use Rattle.c_tree.specs.declared.tree.Assign.{Assign}
use Rattle.c_tree.specs.declared.tree.Expr.{Expr}
use Rattle.c_tree.specs.declared.tree.Block.{Block}
use Rattle.c_tree.specs.declared.tree.BlockItem.{BlockItem}
use Rattle.c_tree.specs.declared.tree.Stmt.{Stmt}
use Rattle.c_tree.specs.declared.tree.StmtKind.{StmtKind}
use Rattle.c_tree.specs.declared.tree.StmtKind.TheVariants as kind
use Rattle.c_tree.specs.declared.tree.Mark.{Mark}
use Rattle.c_tree.specs.declared.tree.Mark.TheVariants as mark_
use Rattle.c_tree.specs.declared.tree.ForInit.{ForInit}
use Rattle.c_tree.specs.Forms.{sole}
use Rattle.c_stmt.specs.declared.forms.Kinded.{Kinded}
use Rattle.c_stmt.specs.declared.forms.Ended.{Ended}
use Rattle.c_stmt.specs.declared.forms.BlockItems.{BlockItems}
use Rattle.c_stmt.specs.declared.forms.Arm.{Arm}
use Rattle.c_stmt.specs.declared.forms.Arms.{Arms}
use Rattle.c_stmt.specs.declared.forms.MaybeExpr.{MaybeExpr}
use Rattle.c_stmt.specs.declared.forms.ForHead.{ForHead}

-- A statement that no `else` goes on.
abbrev pub closed : StmtKind → Kinded
closed kind = record { kind = kind; dangles = false }

-- A statement that goes on with `else` as its body does.
abbrev pub ending_as : Ended → StmtKind → Kinded
ending_as body kind = record { kind = kind; dangles = body.dangles }

abbrev pub stmt_of : List Mark → StmtKind → Stmt
stmt_of labels kind = record { labels = labels; kind = kind }

abbrev pub ended_of : List Mark → Kinded → Ended
ended_of labels kinded = record { stmt = stmt_of labels kinded.kind; dangles = kinded.dangles }

-- ---- Labels (6.8.1)

abbrev pub with_label : List Mark → ℕ → ℕ → List Mark
with_label labels name colon = labels ++ mark_.Label name (colon ∷ []) ∷ []

abbrev pub with_case : List Mark → ℕ → Assign → ℕ → List Mark
with_case labels key value colon = labels ++ mark_.Case (sole value) (key ∷ colon ∷ []) ∷ []

abbrev pub with_default : List Mark → ℕ → ℕ → List Mark
with_default labels key colon = labels ++ mark_.Default key (colon ∷ []) ∷ []

-- ---- Blocks (6.8.2)

abbrev pub no_items : ℕ → BlockItems
no_items left = record { list = []; marks = left ∷ [] }

abbrev pub with_item : BlockItems → BlockItem → BlockItems
with_item items item = record { list = items.list ++ item ∷ []; marks = items.marks }

abbrev pub block_of : BlockItems → ℕ → Block
block_of items right = record { items = items.list; marks = items.marks ++ right ∷ [] }

-- ---- Selection (6.8.4)

abbrev pub arm_of : Expr → Ended → ℕ → ℕ → Arm
arm_of cond body left right = record { cond = cond; body = body; left = left; right = right }

abbrev pub first_arms : ℕ → Arms
first_arms key = record { list = []; marks = key ∷ [] }

abbrev pub with_arm : Arms → Arm → Arms
with_arm arms arm = record {
  list = arms.list ++ (arm.cond, arm.body.stmt) ∷ [];
  marks = arms.marks ++ arm.left ∷ arm.right ∷ [];
}

abbrev pub arms_to : Arms → List ℕ → Arms
arms_to arms marks = record { list = arms.list; marks = arms.marks ++ marks }

-- Without an `else` an `if` dangles.
abbrev pub without_else : Arms → Kinded
without_else arms = record { kind = kind.If arms.list None arms.marks; dangles = true }

abbrev pub with_else : Arms → ℕ → Ended → Kinded
with_else arms else_ body =
    ending_as body (kind.If arms.list (Some body.stmt) (arms.marks ++ else_ ∷ []))

abbrev pub switch_of : ℕ → Arm → Kinded
switch_of key arm = ending_as arm.body
    (kind.Switch arm.cond arm.body.stmt (key ∷ arm.left ∷ arm.right ∷ []))

-- ---- Iteration (6.8.5)

abbrev pub while_of : ℕ → Arm → Kinded
while_of key arm = ending_as arm.body
    (kind.While arm.cond arm.body.stmt (key ∷ arm.left ∷ arm.right ∷ []))

abbrev pub do_of : Ended → Expr → List ℕ → Kinded
do_of body expr marks = closed (kind.DoWhile body.stmt expr marks)

abbrev pub maybe_expr : Option Expr → ℕ → MaybeExpr
maybe_expr expr mark = record { expr = expr; mark = mark }

abbrev pub for_head : ℕ → ℕ → ForInit → MaybeExpr → MaybeExpr → ForHead
for_head key left init cond step = record {
  init = init;
  cond = cond.expr;
  step = step.expr;
  marks = key ∷ left ∷ cond.mark ∷ step.mark ∷ [];
}

abbrev pub for_of : ForHead → Ended → Kinded
for_of head body =
    ending_as body (kind.For head.init head.cond head.step body.stmt head.marks)
