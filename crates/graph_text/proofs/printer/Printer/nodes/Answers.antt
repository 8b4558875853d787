use Rattle.std.proofs.Common.{◌<◌, length, arith}
use Rattle.std.proofs.lemmas.Option.{slice_get-get_or}
use Rattle.cpg_schema.specs.declared.label.Label.TheVariants.{Unknown}
use Rattle.cpg_schema.specs.Graph.{bare_node}
use Rattle.graph_text.proofs.LineByLine.{node_lines-take-one}
use Rattle.graph_text.proofs.Composing.{Prints-then}
use Rattle.graph_text.proofs.printer.Printer.nodes.Goals as goal

pub loop-id-preserved : goal.loop-id-preserved
loop-id-preserved g c =
    let nodes = c.args.graph.now.nodes in
    let below : c.loop-id.id < length nodes = omega (arith, c.len-id-end.ensures) in
    let here = slice_get-get_or nodes c.loop-id.id (bare_node Unknown) below in
    rw (node_lines-take-one _ _ _ here) (Prints-then c.loop-id.invariant (c.node.ensures _ here))
