use Rattle.cfg_rules.proofs.Exact.{past_copy}
use Rattle.cfg_rules.proofs.Answering.{if_ok}
use Rattle.cfg_rules.proofs.JoinShortCircuit.{short_circuit_is}
use Rattle.cfg_rules.proofs.expressions.join_short_circuit.Goals as goal

pub returns : goal.returns
returns c = if_ok c.from_mark.result c.from_mark.ensures (λ next is plan rule p0 p1. short_circuit_is plan _ _ _ _ _ _ _ _ _ _ _ rule p0 p1 c.entry-here.ensures c.in_ok-tested.ensures (past_copy c.in_ok-last.ensures c.in_ok-ended.ensures) c.in_ok-enter.ensures c.in_ok-enter-2.ensures c.in_ok-stop.ensures is)
