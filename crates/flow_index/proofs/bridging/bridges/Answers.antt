use Rattle.flow_index.proofs.Adding.{bridging_more, bridging_end}
use Rattle.flow_index.proofs.bridging.bridges.Goals as goal

pub loop-pair-preserved : goal.loop-pair-preserved
loop-pair-preserved c = bridging_more c.args.flow.now c.args.pairs.now c.loop-pair.ways.items c.add_over.new.ways.items c.loop-pair.pair-index _ c.loop-pair-test.true c.loop-pair.invariant c.in_ok-add_over.ensures

pub returns : goal.returns
returns c = bridging_end c.args.flow.now c.args.pairs.now c.loop-pair.ways.items c.loop-pair.pair-index c.loop-pair-test.false c.loop-pair.invariant
