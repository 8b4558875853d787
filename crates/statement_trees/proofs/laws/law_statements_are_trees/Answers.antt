use Rattle.statement_trees.proofs.Law.{statements_are_trees}
use Rattle.statement_trees.proofs.laws.law_statements_are_trees.Goals as goal

pub returns : goal.returns
returns c = statements_are_trees
