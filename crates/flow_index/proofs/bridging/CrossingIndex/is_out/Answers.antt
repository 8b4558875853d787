use Rattle.std.proofs.lemmas.Bool.{false≢true}
use Rattle.flow_index.proofs.Adding.{out_below, out_found}
use Rattle.flow_index.proofs.bridging.CrossingIndex.is_out.Goals as goal

pub returns-then-vertex-flow : goal.returns-then-vertex-flow
returns-then-vertex-flow c = (λ is. absurd (false≢true is), λ out. absurd (out_below c.args.flow.now c.args.vertex c.if-vertex-flow.true out))

pub returns : goal.returns
returns c = rw c.is_some.ensures (out_found c.args.flow.now c.args.self.now.by_out c.args.vertex c.last.result c.requires.outs c.last.ensures)
