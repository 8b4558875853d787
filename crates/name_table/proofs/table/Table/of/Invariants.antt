-- The numbers so far stand.

use Rattle.name_table.specs.Table.{IsTable}
use Rattle.name_table.proofs.table.Table.of.Given as goal

abbrev pub invariant-loop-number : goal.invariant-loop-number
invariant-loop-number l = IsTable l.texts l.number l.table
