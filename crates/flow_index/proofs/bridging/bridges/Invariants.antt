use Rattle.flow_index.proofs.Adding.{Bridging}
use Rattle.flow_index.proofs.bridging.bridges.Given as goal

abbrev pub invariant-loop-pair : goal.invariant-loop-pair
invariant-loop-pair l = Bridging l.flow l.pairs l.ways.items l.pair-index
