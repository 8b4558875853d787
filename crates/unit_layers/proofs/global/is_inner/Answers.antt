use Rattle.std.proofs.Common.{sym}
use Rattle.unit_layers.proofs.Inner.{other_kind}
use Rattle.unit_layers.proofs.global.is_inner.Goals as goal

pub returns-in_default : goal.returns-in_default
returns-in_default c = sym (other_kind c.args.graph.now c.args.edge.now c.in_default.not-Ast)
