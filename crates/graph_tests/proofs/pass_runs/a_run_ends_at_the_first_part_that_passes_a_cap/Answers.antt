use Rattle.graph_tests.proofs.NoEdges.{empty_shaped}
use Rattle.graph_tests.proofs.pass_runs.a_run_ends_at_the_first_part_that_passes_a_cap.Goals as goal

pub run_pass_one-after-requires-after_bounds : goal.run_pass_one-after-requires-after_bounds
run_pass_one-after-requires-after_bounds g c κs = rw c.in_ok-graph.ensures empty_shaped
