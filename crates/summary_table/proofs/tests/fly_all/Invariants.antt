use Rattle.std.proofs.Common.{◌≡◌, length, take}
use Rattle.summary_table.proofs.tests.fly_all.Given as goal

abbrev pub invariant-loop-plan : goal.invariant-loop-plan
invariant-loop-plan g l = (l.board.flow ≡ l.flow.value) × (l.mirror ≡ take (length l.mirror) l.board.history)
