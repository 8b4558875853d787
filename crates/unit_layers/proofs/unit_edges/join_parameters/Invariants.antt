use Rattle.std.proofs.Common.{◌≡◌, ◌+◌, take}
use Rattle.graph_store.specs.Stored.{plain}
use Rattle.unit_layers.specs.Adding.{with_edges}
use Rattle.unit_rules.specs.UnitEdges.{linked}
use Rattle.unit_layers.proofs.unit_edges.join_parameters.Given as goal

abbrev pub invariant-loop-parameter : goal.invariant-loop-parameter
invariant-loop-parameter l = record {
  out_is : l.out ≡ 2 + l.parameter-index;
  joined : l.delta ≡ with_edges (linked (plain l.graph) 2 (take l.parameter-index l.parameters)) l.fn.delta;
}
