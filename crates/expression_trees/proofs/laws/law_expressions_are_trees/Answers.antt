use Rattle.expression_trees.proofs.Whole.{expressions_are_trees}
use Rattle.expression_trees.proofs.laws.law_expressions_are_trees.Goals as goal

pub returns : goal.returns
returns c = expressions_are_trees
