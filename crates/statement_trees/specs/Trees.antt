-- What is said of the tokens of a text by the parts of statements.

use Rattle.std.specs.Prelude.{ℕ, List, Option}
use Rattle.c_lexer.specs.declared.token.Kind.{Kind}
use Rattle.c_tree.specs.declared.tree.Declaration.{Declaration}
use Rattle.c_tree.specs.declared.tree.Block.{Block}
use Rattle.c_tree.specs.declared.tree.BlockItem.{BlockItem}
use Rattle.c_tree.specs.declared.tree.Stmt.{Stmt}
use Rattle.c_tree.specs.declared.tree.StmtKind.{StmtKind}
use Rattle.c_tree.specs.declared.tree.Mark.{Mark}
use Rattle.c_tree.specs.declared.tree.ForInit.{ForInit}
use Rattle.c_tree.specs.Folds.{StmtSteps, declaration_fold, stmt_fold, stmt_kind_fold, block_fold}
use Rattle.c_tree.specs.Folds.{block_item_fold}
use Rattle.c_tree.specs.Spell.{declaration_spelling, stmt_spelling, stmt_kind_spelling}
use Rattle.c_tree.specs.Spell.{block_spelling, block_item_spelling, label_spelling}
use Rattle.c_tree.specs.Spell.{for_init_spelling}
use Rattle.c_tree.specs.TreeEvents.{Events, statement_steps, label_events, for_init_events, scoped}
use Rattle.expression_trees.specs.Saying.{Said}
use Rattle.expression_trees.specs.Trees.{steps_of}

module _ (kind_of : ℕ → Option Kind) (bytes_of : ℕ → List ℕ) where
  abbrev pub stmt_steps_of : StmtSteps Events
  stmt_steps_of = statement_steps kind_of bytes_of

  abbrev pub of_declaration : Declaration → Said
  of_declaration x = record {
    symbols = declaration_spelling x;
    events = (declaration_fold (steps_of kind_of bytes_of) x).events;
  }

  abbrev pub of_stmt : Stmt → Said
  of_stmt x = record { symbols = stmt_spelling x; events = stmt_fold stmt_steps_of x }

  -- A statement without its labels.
  abbrev pub of_kind : StmtKind → Said
  of_kind x = record { symbols = stmt_kind_spelling x; events = stmt_kind_fold stmt_steps_of x }

  -- A statement that is the body of another one, which is a scope (6.8.4p3, 6.8.5p5).
  abbrev pub of_body : Stmt → Said
  of_body x =
      record { symbols = stmt_spelling x; events = scoped (stmt_fold stmt_steps_of x) }

  abbrev pub of_block : Block → Said
  of_block x = record { symbols = block_spelling x; events = block_fold stmt_steps_of x }

  abbrev pub of_item : BlockItem → Said
  of_item x =
      record { symbols = block_item_spelling x; events = block_item_fold stmt_steps_of x }

  abbrev pub of_label : Mark → Said
  of_label x = record { symbols = label_spelling x; events = label_events kind_of bytes_of x }

  abbrev pub of_for_init : ForInit → Said
  of_for_init x =
      record { symbols = for_init_spelling x; events = for_init_events kind_of bytes_of x }
