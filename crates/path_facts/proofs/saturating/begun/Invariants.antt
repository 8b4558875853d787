use Rattle.path_facts.proofs.Beginning.{Beginning}
use Rattle.path_facts.proofs.saturating.begun.Given as goal

abbrev pub invariant-loop-goal : goal.invariant-loop-goal
invariant-loop-goal l = Beginning l.count l.goals l.facts l.goal-index
