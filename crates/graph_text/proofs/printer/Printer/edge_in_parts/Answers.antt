use Rattle.std.proofs.Common.{ℕ, List, ◌++◌, codes, decimal, ap, sym, subst, append_assoc, ◌∙◌}
use Rattle.cpg_schema.specs.Names.{kind_name}
use Rattle.graph_text.specs.Printing.{Prints}
use Rattle.graph_text.proofs.Composing.{Prints-then}
use Rattle.graph_text.proofs.printer.Printer.edge_in_parts.Goals as goal

pub returns : goal.returns
returns g c =
    let front = codes "edge " ++ decimal c.args.edge.now.from in
    let name = kind_name c.args.edge.now.kind in
    let P : List ℕ → Type 0 = λ text. Prints (g.S.Sink.state c.args.sink.now, c.args.self.now)
    (g.S.Sink.state c.kind.new.sink, c.kind.new.self) text in
    let begun = subst P
    (sym (append_assoc front (codes " " ++ name) (codes " "))
    ∙ ap (λ xs. xs ++ codes " ") (sym (append_assoc front (codes " ") name)))
    (Prints-then (Prints-then c.text.ensures c.number.ensures) c.kind.ensures) in
    Prints-then (Prints-then (Prints-then begun c.number-2.ensures)
    (rw c.variable_name.ensures at c.variable.ensures)) c.text-2.ensures
