use Rattle.flow_index.proofs.CrossingLemmas.{ways_cross}
use Rattle.flow_index.proofs.crossing_ways.ways_of.Goals as goal

pub returns : goal.returns
returns c = ways_cross c.args.crossings.now c.in_ok-ways.ways.items c.in_ok-ways.ensures
