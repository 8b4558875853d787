use Rattle.graph_text.proofs.Composing.{Prints-then}
use Rattle.graph_text.proofs.printer.Printer.label.Goals as goal

pub returns-in_default : goal.returns-in_default
returns-in_default g c =
    Prints-then c.text-in_default.ensures (rw c.name.ensures at c.verbatim.ensures)
