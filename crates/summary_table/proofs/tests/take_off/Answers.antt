use Rattle.std.proofs.Common.{subst}
use Rattle.matched_paths.specs.declared.flow_graph.FlowGraph.{FlowGraph}
use Rattle.matched_paths.specs.Edges.{IsGoal}
use Rattle.summary_table.proofs.Flights.{claimed_goal, claimed_flies, found_front}
use Rattle.summary_table.proofs.tests.take_off.Goals as goal

pub outs-requires : goal.outs-requires
outs-requires c =
    subst (λ (f : FlowGraph). IsGoal f c.in-Some.goal.vertex) c.requires.flow (claimed_goal c.args.board.now c.claim.new.self c.in-Some.goal.vertex c.law_kept.ensures c.in-Some.ensures)

pub returns-clause-flight : goal.returns-clause-flight
returns-clause-flight c =
    let found = found_front c.args.board.now c.claim.new.self c.args.flow.now c.copy_tail.new.mirror c.in-Some.goal.vertex c.in_ok-found.found c.in-Some.ensures c.requires.flow c.in_ok-copy_tail.ensures.ok c.in_ok-found.ensures in
    (claimed_flies c.args.board.now c.claim.new.self c.in-Some.goal.vertex c.in-Some.ensures, found.0, found.1)
