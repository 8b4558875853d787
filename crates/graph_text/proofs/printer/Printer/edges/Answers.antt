use Rattle.std.proofs.Common.{map, get_or}
use Rattle.std.proofs.lemmas.Option.{slice_get-get_or}
use Rattle.cpg_schema.specs.declared.edge_kind.EdgeKind.TheVariants.{Ast}
use Rattle.cpg_schema.specs.Lines.{edge_line}
use Rattle.graph_store.specs.declared.edge.Edge.{Edge}
use Rattle.graph_store.specs.Stored.{plain_edge}
use Rattle.graph_text.proofs.LineByLine.{flat_map-take-one, slice_get-of-map}
use Rattle.graph_text.proofs.Composing.{Prints-then}
use Rattle.graph_text.proofs.printer.Printer.edges.Goals as goal

pub loop-edge-preserved : goal.loop-edge-preserved
loop-edge-preserved g c =
    let plain = plain_edge c.args.graph.now.names in
    let edges = c.args.edges.now in
    let at = c.loop-edge.edge-index in
    let none : Edge = record { from = 0; kind = Ast; to = 0; variable = 0 } in
    let edge = get_or edges at none in
    let here = slice_get-of-map plain edges at edge (slice_get-get_or edges at none c.loop-edge-test.true) in
    rw (flat_map-take-one edge_line (map plain edges) at (plain edge) here) (Prints-then c.loop-edge.invariant c.edge.ensures)
