use Rattle.graph_store.specs.Stored.{plain}
use Rattle.graph_parts.proofs.Walks.{places_are}
use Rattle.graph_parts.proofs.places.places_of.Goals as goal

pub returns : goal.returns
returns c = places_are (plain c.args.graph.now) c.place_below.new.self c.in_ok-place_below.ensures.walk c.in_ok-place_below.ensures.all
