use Rattle.std.proofs.Common.{map, take}
use Rattle.std.specs.Prelude.{flat_map}
use Rattle.cpg_schema.specs.Lines.{edge_line}
use Rattle.graph_store.specs.Stored.{plain_edge}
use Rattle.graph_text.specs.Printing.{Prints}
use Rattle.graph_text.proofs.printer.Printer.edges.Given as goal

-- The lines so far were printed.
abbrev pub invariant-loop-edge : goal.invariant-loop-edge
invariant-loop-edge g l =
    Prints (g.S.Sink.state l.fn.sink, l.fn.self) (g.S.Sink.state l.sink, l.self)
    (flat_map edge_line (take l.edge-index (map (plain_edge l.graph.names) l.edges)))
