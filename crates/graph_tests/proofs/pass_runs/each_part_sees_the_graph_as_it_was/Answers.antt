use Rattle.graph_tests.proofs.NoEdges.{empty_shaped}
use Rattle.graph_tests.proofs.pass_runs.each_part_sees_the_graph_as_it_was.Goals as goal

pub run_pass_one-requires-after_bounds : goal.run_pass_one-requires-after_bounds
run_pass_one-requires-after_bounds g c κs = rw c.in_ok-graph.ensures empty_shaped
