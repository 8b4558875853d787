-- What a walk over the statements of a function finds.

use Rattle.std.specs.Prelude.{ℕ, ◌+◌, List, [], ◌∷◌, ◌++◌, drop, take, map}
use Rattle.c_tree.specs.declared.tree.BlockItem.{BlockItem}
use Rattle.c_tree.specs.declared.tree.Expr.{Expr}
use Rattle.c_tree.specs.declared.tree.Mark.{Mark}
use Rattle.c_tree.specs.declared.tree.Stmt.{Stmt}
use Rattle.c_tree.specs.declared.tree.StmtKind.{StmtKind}
use Rattle.c_tree.specs.Folds.{block_item_fold, stmt_fold, stmt_kind_fold}
use Rattle.c_tree.specs.Jumps.{Blames, Jumps, SecondDefault, blame, in_parts, jump_steps}
use Rattle.c_tree.specs.Jumps.{label_jumps}
use Rattle.c_jumps.specs.declared.around.Around.{Around}

-- ---- What stands in a part of a function

unfoldable pub block_item_jumps : BlockItem → Jumps
block_item_jumps = block_item_fold jump_steps

unfoldable pub stmt_jumps : Stmt → Jumps
stmt_jumps = stmt_fold jump_steps

unfoldable pub stmt_kind_jumps : StmtKind → Jumps
stmt_kind_jumps = stmt_kind_fold jump_steps

-- A condition of an `if`, with what is done where it holds.
unfoldable pub arm_jumps : Expr × Stmt → Jumps
arm_jumps arm = stmt_jumps arm.1

unfoldable pub mark_jumps : Mark → Jumps
mark_jumps = label_jumps

-- ---- What was found

-- The faults that show at once, each `default` of the `switch`es around, each label, and each name
-- behind `goto`.
pub record FoundJumps : Type 0 where
  pub faults : Blames
  pub defaults : List ℕ
  pub labels : List ℕ
  pub gotos : List ℕ

unfoldable pub with_blames : FoundJumps → Blames → FoundJumps
with_blames found blames = record found { faults = found.faults ++ blames }

unfoldable pub with_default : FoundJumps → ℕ → FoundJumps
with_default found token = record found { defaults = found.defaults ++ token ∷ [] }

unfoldable pub with_label : FoundJumps → ℕ → FoundJumps
with_label found name = record found { labels = found.labels ++ name ∷ [] }

unfoldable pub with_goto : FoundJumps → ℕ → FoundJumps
with_goto found name = record found { gotos = found.gotos ++ name ∷ [] }

-- With what stands in a part.
unfoldable pub with_part : FoundJumps → Jumps → Around → FoundJumps
with_part found part around = record {
  faults = found.faults ++ part.strays around.in_loop around.in_switch;
  defaults = found.defaults ++ part.defaults;
  labels = found.labels ++ part.labels;
  gotos = found.gotos ++ part.gotos;
}

-- With what stands in the parts, one after the other.
unfoldable pub with_parts : FoundJumps → List Jumps → Around → FoundJumps
with_parts found parts around = with_part found (in_parts parts) around

-- At the end of a `switch`, before which there were so many `default`s.
unfoldable pub after_switch : ℕ → FoundJumps → FoundJumps
after_switch outer found = record found {
  faults = found.faults ++ map (blame SecondDefault) (drop (outer + 1) found.defaults);
  defaults = take outer found.defaults;
}
