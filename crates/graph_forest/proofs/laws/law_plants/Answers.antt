use Rattle.graph_forest.proofs.Composing.{plants_none, plants_beside, plants_branch, plants_whole}
use Rattle.graph_forest.proofs.laws.law_plants.Goals as goal

pub returns-clause-nothing : goal.returns-clause-nothing
returns-clause-nothing c = plants_none

pub returns-clause-beside : goal.returns-clause-beside
returns-clause-beside c = plants_beside

pub returns-clause-branch : goal.returns-clause-branch
returns-clause-branch c = plants_branch

pub returns-clause-whole : goal.returns-clause-whole
returns-clause-whole c = plants_whole
