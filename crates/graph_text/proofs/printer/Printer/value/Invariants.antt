use Rattle.std.proofs.Common.{◌≤◌, ◌-◌, length, take}
use Rattle.cpg_schema.specs.Values.{escaped}
use Rattle.graph_text.specs.Printing.{Prints}
use Rattle.graph_text.proofs.printer.Printer.value.Given as goal

-- The bytes before `at` were printed.
abbrev pub invariant-loop-at : goal.invariant-loop-at
invariant-loop-at g l = record {
  within : l.at ≤ length l.bytes;
  printed : Prints (g.S.Sink.state l.fn.sink, l.fn.self) (g.S.Sink.state l.sink, l.self)
      (escaped (take l.at l.bytes));
}

abbrev pub decreases-loop-at : goal.decreases-loop-at
decreases-loop-at g l = length l.bytes - l.at
