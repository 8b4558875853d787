use Rattle.std.proofs.Common.{◌≡◌, length}
use Rattle.cfg_flow.proofs.table.gaps.Given as goal

abbrev pub invariant-loop : goal.invariant-loop
invariant-loop l = length l.table.items ≡ l.counter
