use Rattle.std.proofs.Common.{[]}
use Rattle.std.proofs.lemmas.Option.{slice_get-get_or}
use Rattle.graph_text.specs.declared.line.LinePart.TheVariants.{Verbatim}
use Rattle.graph_text.specs.LineParts.{part_text}
use Rattle.graph_text.proofs.LineByLine.{flat_map-take-one}
use Rattle.graph_text.proofs.Composing.{Prints-then}
use Rattle.graph_text.proofs.printer.Printer.parts.Goals as goal

pub loop-part-preserved : goal.loop-part-preserved
loop-part-preserved g c =
    let here = slice_get-get_or c.args.parts.now c.loop-part.part-index (Verbatim (record { ref_ptr = (0, 0); now = [] })) c.loop-part-test.true in
    rw (flat_map-take-one part_text _ _ _ here) (Prints-then c.loop-part.invariant c.part.ensures)
