use Rattle.std.proofs.Common.{take}
use Rattle.std.specs.Prelude.{flat_map}
use Rattle.graph_text.specs.LineParts.{part_text}
use Rattle.graph_text.specs.Printing.{Prints}
use Rattle.graph_text.proofs.printer.Printer.parts.Given as goal

-- The parts so far were printed.
abbrev pub invariant-loop-part : goal.invariant-loop-part
invariant-loop-part g l =
    Prints (g.S.Sink.state l.fn.sink, l.fn.self) (g.S.Sink.state l.sink, l.self)
    (flat_map part_text (take l.part-index l.parts))
