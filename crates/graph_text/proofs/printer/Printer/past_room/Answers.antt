use Rattle.graph_text.proofs.Composing.{Prints-then}
use Rattle.graph_text.proofs.printer.Printer.past_room.Goals as goal

-- What waited goes out, and then the text.
pub returns-else-text-le-ROOM : goal.returns-else-text-le-ROOM
returns-else-text-le-ROOM g c = Prints-then c.flush.ensures.printed c.pass.ensures
