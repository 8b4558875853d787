use Rattle.matched_paths.proofs.Needing.{needs_wanted}
use Rattle.matched_paths.proofs.laws.law_needed.Goals as goal

pub returns : goal.returns
returns c flow starts a b = needs_wanted flow starts
