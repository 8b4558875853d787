-- None of the slots that were passed is free.

use Rattle.std.proofs.Common.{◌≡◌}
use Rattle.name_table.specs.Table.{home_of, IsTakenTo}
use Rattle.name_table.proofs.table.Table.free_slot.Given as goal

abbrev pub invariant-loop-slot : goal.invariant-loop-slot
invariant-loop-slot l = record {
  home : l.home ≡ home_of l.self.mask l.name;
  taken : IsTakenTo l.self l.name l.slot;
}
