use Rattle.matched_paths.specs.Wanted.{IsWantedPair}
use Rattle.matched_paths.proofs.PathLemmas.{all_at}
use Rattle.matched_paths.proofs.Closing.{held_wanted}
use Rattle.matched_paths.proofs.laws.law_wanted.Goals as goal

pub returns : goal.returns
returns c flow starts pairs all holds pair = (all_at (IsWantedPair flow starts) pairs pair all, held_wanted flow starts pairs holds pair)
