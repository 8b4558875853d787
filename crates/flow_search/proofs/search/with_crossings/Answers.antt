use Rattle.flow_search.proofs.Turning.{both_are}
use Rattle.flow_search.proofs.search.with_crossings.Goals as goal

pub returns : goal.returns
returns c = both_are c.args.steps.now c.in_ok-ways.ways.items c.extend_from_slice.new.self.items c.args.crossings.now c.in_ok-ways.ensures c.in_ok-extend_from_slice.ensures.items
