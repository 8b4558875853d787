use Rattle.graph_parts.proofs.Walks.{new_walk}
use Rattle.graph_parts.proofs.walk.Walk.new.Goals as goal

pub returns : goal.returns
returns c = λ graph count.
    new_walk graph _ c.args.count (c.in_ok-vec.ensures.items_if_clones_equal (λ y is. is)) (c.in_ok-vec-2.ensures.items_if_clones_equal (λ y is. is)) c.in_ok-with_capacity.ensures.items count
