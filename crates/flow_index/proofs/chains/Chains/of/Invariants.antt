use Rattle.flow_index.proofs.Chaining.{Chaining}
use Rattle.flow_index.proofs.chains.Chains.of.Given as goal

abbrev pub invariant-loop-position : goal.invariant-loop-position
invariant-loop-position l = Chaining l.count l.fn.keys.items l.last.items l.before.items l.position
