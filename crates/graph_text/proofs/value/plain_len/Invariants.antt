use Rattle.std.proofs.Common.{◌≡◌, take}
use Rattle.cpg_schema.specs.Values.{escaped}
use Rattle.graph_text.proofs.value.plain_len.Given as goal

abbrev pub invariant-loop-at : goal.invariant-loop-at
invariant-loop-at l = escaped (take l.at l.bytes) ≡ take l.at l.bytes
