use Rattle.std.proofs.Common.{sym, ◌∙◌}
use Rattle.graph_store.specs.Stored.{plain}
use Rattle.unit_layers.proofs.Places.{unit_without_parent}
use Rattle.unit_layers.proofs.global.is_unit.Goals as goal

pub returns-then-is_global : goal.returns-then-is_global
returns-then-is_global c =
    unit_without_parent (plain c.args.graph.now) c.args.node c.parent_of.result c.is_none.result c.parent_of.ensures.parent c.is_none.ensures (sym c.is_global.ensures ∙ c.if-is_global.true)
