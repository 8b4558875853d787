use Rattle.std.proofs.Common.{◌<◌, length, arith}
use Rattle.graph_text.proofs.Escaping.{escaped-plain_and_one}
use Rattle.graph_text.proofs.Composing.{Prints-then}
use Rattle.graph_text.proofs.printer.Printer.front.Goals as goal

pub returns-clause-printed : goal.returns-clause-printed
returns-clause-printed g c =
    let plain = c.plain_len-plain.result in
    let bytes = c.args.bytes.now in
    let below : plain < length bytes = grind arith in
    rw (escaped-plain_and_one plain bytes below c.plain_len-plain.ensures.plain)
    (Prints-then c.text.ensures c.escape.ensures)
