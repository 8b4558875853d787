use Rattle.graph_text.proofs.Composing.{Prints-then}
use Rattle.graph_text.proofs.printer.Printer.valued.Goals as goal

pub returns-else-plain_len-bytes : goal.returns-else-plain_len-bytes
returns-else-plain_len-bytes g c = Prints-then c.text.ensures c.value.ensures
