use Rattle.graph_text.proofs.Composing.{Prints-then, on_ok-finished, on_err-finished}
use Rattle.graph_text.proofs.graph.dump.Goals as goal

pub returns-clause-ok : goal.returns-clause-ok
returns-clause-ok g c =
    on_ok-finished c.finish.result _ _ _ _
    c.new-printer.ensures.nothing
    (Prints-then c.nodes.ensures (rw c.requires.order.order at c.edges.ensures))
    c.finish.ensures.after_fault c.finish.ensures.ok

pub returns-clause-failed : goal.returns-clause-failed
returns-clause-failed g c =
    on_err-finished c.finish.result _ _ _ _
    c.new-printer.ensures.nothing c.new-printer.ensures.no_fault
    (Prints-then c.nodes.ensures (rw c.requires.order.order at c.edges.ensures))
    c.finish.ensures.failed c.finish.ensures.after_fault
