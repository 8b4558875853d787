use Rattle.std.proofs.Common.{◌≡◌, filter}
use Rattle.std.specs.List.{range_with_len}
use Rattle.graph_store.specs.Stored.{plain}
use Rattle.unit_rules.specs.Units.{is_unit}
use Rattle.unit_layers.proofs.global.units.Given as goal

abbrev pub invariant-loop-node : goal.invariant-loop-node
invariant-loop-node l = l.found.items ≡ filter (is_unit (plain l.graph)) (range_with_len 0 l.node)
