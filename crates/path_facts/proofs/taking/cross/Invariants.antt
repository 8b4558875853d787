use Rattle.path_facts.proofs.Tabulating.{Crossing}
use Rattle.path_facts.proofs.taking.cross.Given as goal

abbrev pub invariant-loop-way : goal.invariant-loop-way
invariant-loop-way l = Crossing l.flow l.fn.facts l.position l.way-items l.facts l.bridges l.way-index
