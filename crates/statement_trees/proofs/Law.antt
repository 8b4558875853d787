-- The theorem, with what is known of the forms of expressions.

use Rattle.statement_trees.specs.StatementsAreTrees.{StatementsAreTrees, below_by}
use Rattle.statement_trees.proofs.Free.{free_stmt, shut_block}
use Rattle.statement_trees.proofs.First.{braced_or, begins_no_if}
use Rattle.statement_trees.proofs.Heads.{expr_no_brace, expr_no_if}
use Rattle.statement_trees.proofs.Whole.{statement_trees, block_trees, statement_words, block_words}

pub statements_are_trees : StatementsAreTrees
statements_are_trees = record {
  words = λ kind_of bytes_of free words h turns level.
      let s = free_stmt kind_of bytes_of free.expr free.declaration in
      let b = shut_block kind_of bytes_of free.expr free.declaration in
      (statement_trees kind_of bytes_of free.expr s b (below_by words) h turns level, block_trees kind_of bytes_of free.expr s b (below_by words) h turns level);
  trees = λ kind_of bytes_of free words h level depth.
      let s = free_stmt kind_of bytes_of free.expr free.declaration in
      let b = shut_block kind_of bytes_of free.expr free.declaration in
      let p = braced_or kind_of bytes_of (expr_no_brace kind_of bytes_of) (expr_no_if kind_of bytes_of) in
      let q = begins_no_if kind_of bytes_of (expr_no_brace kind_of bytes_of) (expr_no_if kind_of bytes_of) in
      (statement_words kind_of bytes_of free.expr s b (below_by words) p q h level depth, block_words kind_of bytes_of free.expr s b (below_by words) p q h level depth);
}
