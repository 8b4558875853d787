use Rattle.std.proofs.Common.{◌<◌, ℕ, length, slice_index, ◌≡◌, subst, ◌∙◌, arith}
use Rattle.std.proofs.lemmas.List.{get_or_default}
use Rattle.graph_store.specs.Stored.{plain}
use Rattle.graph_parts.specs.Walking.{HasChildren}
use Rattle.graph_parts.proofs.Walks.{all_placed, below_next, few_placed}
use Rattle.graph_parts.proofs.walk.Walk.place_below.Goals as goal

pub loop-next-smaller : goal.loop-next-smaller
loop-next-smaller c =
    let few = few_placed (plain c.args.graph.now) c.loop-next.self c.loop-next.invariant.walk_is in
    let low = c.loop-next-test.true in
    let len = c.len.ensures in
    omega (arith, c.loop-next.self.order.ok.0)

pub loop-next-preserved : goal.loop-next-preserved
loop-next-preserved c =
    let graph = plain c.args.graph.now in
    let order = c.loop-next.self.order.items in
    let next = c.loop-next.next in
    let len = c.len.ensures in
    let low : next < length order = omega (arith, c.loop-next.self.order.ok.0, c.loop-next-test.true) in
    let node : c.index-node.result.now ≡ slice_index order next = c.index-node.ensures ∙ get_or_default order next c.index-node.result.now 0 low in
    below_next graph c.loop-next.self c.place_children.new.self next c.loop-next.invariant low c.in_ok-place_children.ensures.walk
    (subst (λ (n : ℕ). HasChildren graph n c.place_children.new.self) node c.in_ok-place_children.ensures.children) c.in_ok-place_children.ensures.goes_on

pub returns-clause-all : goal.returns-clause-all
returns-clause-all c =
    let len = c.len.ensures in
    all_placed (plain c.args.graph.now) c.requires.shaped c.law_stored.ensures.is_graph c.loop-next.self c.loop-next.next c.loop-next.invariant
    (omega (arith, c.loop-next.self.order.ok.0, c.loop-next-test.false))
