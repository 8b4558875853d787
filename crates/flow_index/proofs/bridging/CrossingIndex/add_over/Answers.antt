use Rattle.std.proofs.Common.{◌≡◌, List, get_or, subst, ap}
use Rattle.matched_paths.specs.declared.flow_graph.Crossing.{Crossing}
use Rattle.flow_index.specs.Ways.{AddsAll, Enters}
use Rattle.flow_index.proofs.Adding.{no_crossing, over_none, span_step, span_end}
use Rattle.flow_index.proofs.bridging.CrossingIndex.add_over.Goals as goal

pub returns-then-pair-flow : goal.returns-then-pair-flow
returns-then-pair-flow c = over_none c.args.flow.now c.args.pair c.args.ways.now.items c.if-pair-flow.true

pub loop-next-preserved : goal.loop-next-preserved
loop-next-preserved c =
    let flow = c.args.flow.now in
    let index = c.args.self.now in
    let position = c.in-Some.position in
    let is : get_or c.items.result.now position no_crossing ≡ get_or flow.closes position no_crossing = ap (λ (xs : List Crossing). get_or xs position no_crossing) c.items.ensures in
    span_step flow index.by_out c.args.pair c.args.ways.now.items c.loop-next.ways.items c.add_entries.new.ways.items position c.loop-next.next c.before-next.result c.requires.outs c.in-Some.is c.loop-next.invariant c.before-next.ensures
    (subst (λ (x : Crossing). AddsAll (Enters flow x.to x.call c.args.pair.goal) c.loop-next.ways.items c.add_entries.new.ways.items) is c.in_ok-add_entries.ensures)

pub returns : goal.returns
returns c = span_end c.args.flow.now c.args.self.now.by_out c.args.pair c.args.ways.now.items c.loop-next.ways.items c.loop-next.next c.requires.outs c.in_default.is c.loop-next.invariant
