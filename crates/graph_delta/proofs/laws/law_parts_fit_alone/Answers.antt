use Rattle.cpg_schema.proofs.Apart.{parts_fit_alone}
use Rattle.graph_delta.proofs.laws.law_parts_fit_alone.Goals as goal

pub returns : goal.returns
returns c = parts_fit_alone
