use Rattle.std.proofs.Common.{rules}
use Rattle.flow_index.specs.Crossings.{slot_of}
use Rattle.flow_index.proofs.bridging.slot_for.Goals as goal

pub returns-clause-slot : goal.returns-clause-slot
unfolding slot_of
returns-clause-slot c = search rules
