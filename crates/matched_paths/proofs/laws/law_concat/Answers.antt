use Rattle.matched_paths.specs.Matched.{then}
use Rattle.matched_paths.proofs.laws.law_concat.Goals as goal

pub returns : goal.returns
returns c flow a b d front back = then front back
