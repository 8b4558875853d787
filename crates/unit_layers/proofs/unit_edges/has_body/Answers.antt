use Rattle.std.proofs.Common.{◌∙◌}
use Rattle.graph_store.specs.Stored.{plain}
use Rattle.unit_layers.proofs.Bodies.{body_is}
use Rattle.unit_layers.proofs.unit_edges.has_body.Goals as goal

pub returns : goal.returns
returns c = c.is_some.ensures ∙ body_is (plain c.args.graph.now) c.args.method c.child_of.result c.child_of.ensures.child
