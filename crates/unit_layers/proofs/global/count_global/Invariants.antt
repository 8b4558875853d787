use Rattle.std.specs.List.{range_with_len}
use Rattle.graph_store.specs.Stored.{plain}
use Rattle.unit_rules.specs.Units.{is_global}
use Rattle.unit_layers.proofs.Steps.{Counted}
use Rattle.unit_layers.proofs.global.count_global.Given as goal

abbrev pub invariant-loop-node : goal.invariant-loop-node
invariant-loop-node l = Counted (is_global (plain l.graph)) (range_with_len 0 l.node) l.count l.node
