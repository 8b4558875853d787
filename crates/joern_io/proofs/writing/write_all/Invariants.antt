use Rattle.std.proofs.Common.{length, ◌-◌, ◌≤◌, take}
use Rattle.joern_io.specs.Sinks.{Takes}
use Rattle.joern_io.proofs.writing.write_all.Given as goal

-- The bytes before `at` were taken.
abbrev pub invariant-loop-at : goal.invariant-loop-at
invariant-loop-at g l = record {
  within : l.at ≤ length l.bytes;
  taken : Takes (g.S.Sink.state l.fn.sink) (g.S.Sink.state l.sink) (take l.at l.bytes);
}

abbrev pub decreases-loop-at : goal.decreases-loop-at
decreases-loop-at g l = length l.bytes - l.at
