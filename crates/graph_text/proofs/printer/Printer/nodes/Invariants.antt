use Rattle.std.proofs.Common.{take}
use Rattle.cpg_schema.specs.Lines.{node_lines}
use Rattle.graph_text.specs.Printing.{Prints}
use Rattle.graph_text.proofs.printer.Printer.nodes.Given as goal

-- The lines so far were printed.
abbrev pub invariant-loop-id : goal.invariant-loop-id
invariant-loop-id g l =
    Prints (g.S.Sink.state l.fn.sink, l.fn.self) (g.S.Sink.state l.sink, l.self)
    (node_lines 0 (take l.id l.graph.nodes))
