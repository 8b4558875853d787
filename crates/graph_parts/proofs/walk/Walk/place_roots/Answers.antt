use Rattle.std.proofs.Common.{ℕ, ◌+◌, sym, subst}
use Rattle.graph_store.specs.Stored.{plain}
use Rattle.graph_parts.specs.declared.walk.Walk.{Walk}
use Rattle.graph_parts.specs.Parts.{IsChild}
use Rattle.graph_parts.proofs.Parents.{none_found, some_found}
use Rattle.graph_parts.proofs.Walks.{Rooting, root_place, rooting_next, stays}
use Rattle.graph_parts.proofs.walk.Walk.place_roots.Goals as goal
use Rattle.graph_parts.proofs.walk.Walk.place_roots.Goals.{then-is_none+in_ok-place, else-is_none}

pub loop-node-preserved : goal.loop-node-preserved
loop-node-preserved c =
    let graph = plain c.args.graph.now in
    let node = c.loop-node.node in
    let walk = c.loop-node.invariant.walk_is in
    elim c.if-is_none.branch [
      | then-is_none+in_ok-place w ↦
          let top = none_found (λ (parent : ℕ). IsChild graph parent node) c.parent_of.result c.is_none.result c.is_none.ensures w.if-is_none.true c.parent_of.ensures.parent in
          subst (λ (x : Walk). Rooting graph x (node + 1)) (sym w.self-is)
          (rooting_next graph c.loop-node.self w.place.new.self node c.loop-node.invariant (w.in_ok-place.ensures.walk graph walk (root_place graph node top)) w.in_ok-place.ensures.goes_on
          (λ _. w.in_ok-place.ensures.placed))
      | else-is_none w ↦
          subst (λ (x : Walk). Rooting graph x (node + 1)) (sym w.self-is)
          (rooting_next graph c.loop-node.self c.loop-node.self node c.loop-node.invariant walk (stays c.loop-node.self)
          (λ top.
          absurd
          (some_found (λ (parent : ℕ). IsChild graph parent node) c.parent_of.result c.is_none.result c.is_none.ensures w.if-is_none.false c.parent_of.ensures.parent top)))
    ]
