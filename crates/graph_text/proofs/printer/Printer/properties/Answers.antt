use Rattle.graph_text.proofs.Composing.{Prints-then}
use Rattle.graph_text.proofs.printer.Printer.properties.Goals as goal

pub returns : goal.returns
returns g c = λ node here.
    Prints-then (Prints-then (Prints-then (Prints-then (Prints-then (Prints-then (Prints-then
    (Prints-then (rw here at c.text_property.ensures) (rw here at c.text_property-2.ensures))
    (rw here at c.text_property-3.ensures)) (rw here at c.number_property.ensures))
    (rw here at c.number_property-2.ensures)) (rw here at c.number_property-3.ensures))
    (rw here at c.text_property-4.ensures)) (rw here at c.text_property-5.ensures))
    (rw here at c.text_property-6.ensures)
