use Rattle.std.proofs.Common.{take}
use Rattle.graph_store.specs.Stored.{plain}
use Rattle.unit_rules.specs.Units.{is_inner}
use Rattle.unit_layers.proofs.Steps.{Counted}
use Rattle.unit_layers.proofs.global.count_inner.Given as goal

abbrev pub invariant-loop-edge : goal.invariant-loop-edge
invariant-loop-edge l = Counted (is_inner (plain l.graph)) (take l.edge-index (plain l.graph).edges) l.count l.edge-index
