use Rattle.graph_text.proofs.Composing.{Prints-then}
use Rattle.graph_text.proofs.printer.Printer.kind.Goals as goal

pub returns : goal.returns
returns g c =
    Prints-then (Prints-then c.text.ensures (rw c.name.ensures at c.verbatim.ensures)) c.text-2.ensures
