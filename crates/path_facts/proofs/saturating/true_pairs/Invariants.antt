use Rattle.path_facts.proofs.Beginning.{Saturating}
use Rattle.path_facts.proofs.saturating.true_pairs.Given as goal

abbrev pub invariant-loop-next : goal.invariant-loop-next
invariant-loop-next l = Saturating l.flow l.goals l.facts l.bridges l.next
