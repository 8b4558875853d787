use Rattle.std.proofs.Common.{◌<◌, ap, length}
use Rattle.flow_index.specs.Vertices.{Vertices}
use Rattle.flow_index.proofs.Marking.{marked_more, meets_new}
use Rattle.flow_index.proofs.vertex_set.VertexSet.meet.Goals as goal

pub invariant_of-self-then-not-index : goal.invariant_of-self-then-not-index
invariant_of-self-then-not-index c =
    let below : c.args.vertex < length c.self.inside.marks.items = rw (ap (λ (s : Vertices). s.count) c.self.view_is) c.requires in
    rw c.in_ok-push.ensures.items (marked_more _ _ _ below c.self.invariant)

pub returns-in_ok-push-clause-ok : goal.returns-in_ok-push-clause-ok
returns-in_ok-push-clause-ok c =
    rw (← c.self.view_is, c.in_ok-push.ensures.items) (meets_new c.self.inside.marks.items c.self.inside.met.items c.args.vertex)
