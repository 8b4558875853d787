use Rattle.cpg_schema.proofs.Among.{applied_is_graph}
use Rattle.cpg_schema.proofs.laws.law_stays_a_graph.Goals as goal

pub returns : goal.returns
returns c = applied_is_graph
