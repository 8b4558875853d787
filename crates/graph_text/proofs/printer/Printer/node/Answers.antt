use Rattle.std.proofs.Common.{ℕ, List, ◌++◌, codes, decimal, sym, subst, append_assoc}
use Rattle.cpg_schema.specs.Names.{label_name}
use Rattle.graph_text.specs.Printing.{Prints}
use Rattle.graph_text.proofs.Composing.{Prints-then}
use Rattle.graph_text.proofs.LineByLine.{label-of}
use Rattle.graph_text.proofs.printer.Printer.node.Goals as goal

pub returns : goal.returns
returns g c = λ node here.
    let is = label-of c.args.graph.now.nodes c.args.id node c.node.result here c.node.ensures in
    let P : List ℕ → Type 0 = λ text. Prints (g.S.Sink.state c.args.sink.now, c.args.self.now)
    (g.S.Sink.state c.label.new.sink, c.label.new.self) text in
    let begun = subst P (sym (append_assoc (codes "node " ++ decimal c.args.id) (codes " ") (label_name node.label)))
    (Prints-then c.numbered.ensures (rw is at c.label.ensures)) in
    Prints-then (Prints-then begun (c.properties.ensures node here)) c.text.ensures
