use Rattle.cfg_rules.proofs.Summing.{joined_is_summary}
use Rattle.cfg_rules.proofs.laws.law_joined_is_summary.Goals as goal

pub returns : goal.returns
returns c = joined_is_summary
