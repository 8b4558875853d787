use Rattle.graph_text.proofs.Composing.{Prints-then}
use Rattle.graph_text.proofs.printer.Printer.variable.Goals as goal

pub returns-in-ReachingDef : goal.returns-in-ReachingDef
returns-in-ReachingDef g c = rw c.in-ReachingDef.is (Prints-then c.text.ensures c.value.ensures)
