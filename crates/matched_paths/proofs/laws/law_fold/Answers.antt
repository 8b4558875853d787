use Rattle.matched_paths.proofs.Folding.{folded, unfolded}
use Rattle.matched_paths.proofs.laws.law_fold.Goals as goal

pub returns : goal.returns
returns c flow a b = (folded flow, unfolded flow)
