use Rattle.matched_paths.specs.Matched.{IsTruePair}
use Rattle.matched_paths.proofs.PathLemmas.{all_at}
use Rattle.matched_paths.proofs.Closing.{held_true}
use Rattle.matched_paths.proofs.laws.law_closed.Goals as goal

pub returns : goal.returns
returns c flow pairs all holds pair = (all_at (IsTruePair flow) pairs pair all, held_true flow pairs holds pair)
