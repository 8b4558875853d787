use Rattle.std.proofs.Common.{◌<◌, ◌≤◌, List, length, get_or, ap, subst, arith}
use Rattle.matched_paths.specs.declared.flow_graph.Crossing.{Crossing}
use Rattle.flow_index.specs.Vertices.{Meets}
use Rattle.summary_core.proofs.Wanting.{goals_more, goals_end}
use Rattle.summary_core.proofs.wanted.goals.Goals as goal

abbrev no_crossing : Crossing
no_crossing = record { call = 0; from = 0; to = 0 }

pub loop-entry-preserved : goal.loop-entry-preserved
loop-entry-preserved c =
    let inside : c.loop-entry.entry-index < length c.args.flow.now.opens = omega (arith, c.loop-entry-test.true, ap length c.items-entry-items.ensures) in
    goals_more c.args.flow.now c.loop-entry.set c.meet.new.self c.loop-entry.entry-index no_crossing inside c.loop-entry.invariant
    (subst (λ (xs : List Crossing). Meets c.loop-entry.set c.meet.new.self (get_or xs c.loop-entry.entry-index no_crossing).to) c.items-entry-items.ensures c.in_ok-meet.ensures.ok)

pub returns : goal.returns
returns c =
    let all : length c.args.flow.now.opens ≤ c.loop-entry.entry-index = omega (arith, c.loop-entry-test.false, ap length c.items-entry-items.ensures) in
    goals_end c.args.flow.now c.loop-entry.set c.loop-entry.entry-index all c.loop-entry.invariant
