use Rattle.std.proofs.Common.{ap}
use Rattle.graph_store.specs.Stored.{plain}
use Rattle.ast_layer.specs.Parts.{sources_of}
use Rattle.ast_layer.specs.PassLaws.{parts_shape}
use Rattle.unit_layers.specs.PassLaws.{parts_shape as units_shape}
use Rattle.graph_tests.proofs.unit_runs.unit_graph.Goals as goal

pub run_pass_one-requires-2-after_bounds : goal.run_pass_one-requires-2-after_bounds
run_pass_one-requires-2-after_bounds c κs =
    parts_shape (sources_of c.args.sources.now) _ _ _ c.law_stored.ensures.is_graph (ap plain c.in_ok-empty.ensures) c.in_ok-syntax.ensures.ok.is

pub returns : goal.returns
returns c =
    let shaped =
    parts_shape (sources_of c.args.sources.now) _ _ _ c.law_stored.ensures.is_graph (ap plain c.in_ok-empty.ensures) c.in_ok-syntax.ensures.ok.is in
    units_shape _ _ _ c.law_stored-2.ensures.is_graph shaped c.in_ok-graph.ensures.ok.is
