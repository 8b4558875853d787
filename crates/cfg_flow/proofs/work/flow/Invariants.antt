use Rattle.std.proofs.Common.{◌≡◌, length}
use Rattle.cfg_flow.specs.Plans.{IsFlat}
use Rattle.cfg_flow.specs.Works.{AreJoinedFrom}
use Rattle.cfg_flow.proofs.work.flow.Given as goal

abbrev pub invariant-loop-x : goal.invariant-loop-x
invariant-loop-x l = record {
  room : length l.work.table.items ≡ length l.fn.plan.rows.items;
  joined : IsFlat l.fn.plan → AreJoinedFrom l.fn.plan l.x l.work;
}
