use Rattle.std.proofs.Common.{arith}
use Rattle.graph_store.specs.Stored.{plain}
use Rattle.unit_layers.proofs.Steps.{joined_parameter}
use Rattle.unit_layers.proofs.unit_edges.join_parameters.Goals as goal

pub loop-parameter-preserved : goal.loop-parameter-preserved
loop-parameter-preserved c = record {
  out_is = omega arith;
  joined =
      joined_parameter (plain c.args.graph.now) c.args.parameters.now c.loop-parameter.parameter-index c.loop-parameter.out c.args.delta.now c.loop-parameter.delta c.join_parameter.new.delta
      c.loop-parameter-test.true c.loop-parameter.invariant.out_is c.in_ok-join_parameter.ensures c.loop-parameter.invariant.joined;
}
