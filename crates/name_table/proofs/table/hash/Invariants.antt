-- The hash of what is left, from that of what was taken, is the hash of the name.

use Rattle.std.proofs.Common.{◌≡◌, drop}
use Rattle.name_table.specs.Table.{hash_on, hash_of}
use Rattle.name_table.proofs.table.hash.Given as goal

abbrev pub invariant-loop-byte : goal.invariant-loop-byte
invariant-loop-byte l = hash_on l.hash (drop l.byte-index l.name) ≡ hash_of l.name
