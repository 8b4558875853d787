use Rattle.cfg_rules.proofs.Summing.{summary_is_part}
use Rattle.cfg_rules.proofs.laws.law_summary_is_part.Goals as goal

pub returns : goal.returns
returns c = summary_is_part
