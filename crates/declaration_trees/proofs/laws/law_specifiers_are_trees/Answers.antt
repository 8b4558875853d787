use Rattle.declaration_trees.proofs.Whole.{specifiers_are_trees}
use Rattle.declaration_trees.proofs.laws.law_specifiers_are_trees.Goals as goal

pub returns : goal.returns
returns c = specifiers_are_trees
