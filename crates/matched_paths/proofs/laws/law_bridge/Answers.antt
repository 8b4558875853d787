use Rattle.matched_paths.specs.Matched.{call}
use Rattle.matched_paths.proofs.laws.law_bridge.Goals as goal

pub returns : goal.returns
returns c flow number a b pair opened true closed = call opened true.matched closed
