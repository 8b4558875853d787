use Rattle.std.proofs.Common.{◌++◌, ◌∷◌, [], ℕ, List, sym, subst, arith}
use Rattle.std.proofs.lemmas.List.{get_or_read}
use Rattle.graph_store.specs.Stored.{plain}
use Rattle.unit_rules.specs.Units.{members}
use Rattle.unit_layers.proofs.Chaining.{Walked, walked_all, walked_on}
use Rattle.unit_layers.proofs.trees.Trees.members.Goals as goal

pub index-node-requires-in-loop-node : goal.index-node-requires-in-loop-node
index-node-requires-in-loop-node c =
    let meets =
    walked_on (members (plain c.args.graph.now) c.args.root) c.args.self.now.next.items c.loop-node.members.items c.loop-node.node c.loop-node-test.true c.loop-node.invariant in
    omega (arith, meets.inside)

pub loop-node-preserved : goal.loop-node-preserved
loop-node-preserved c =
    let whole = members (plain c.args.graph.now) c.args.root in
    let next = c.args.self.now.next.items in
    let meets = walked_on whole next c.loop-node.members.items c.loop-node.node c.loop-node-test.true c.loop-node.invariant in
    let read = get_or_read next c.loop-node.node c.index-node-in-loop-node.result.now (omega (arith, meets.inside)) c.index-node-in-loop-node.ensures 0 in
    subst (λ (xs : List ℕ). Walked whole next xs c.index-node-in-loop-node.result.now) (sym c.in_ok-push.ensures.items)
    (subst (λ (k : ℕ). Walked whole next (c.loop-node.members.items ++ c.loop-node.node ∷ []) k) (sym read) meets.on)

pub returns : goal.returns
returns c =
    walked_all (members (plain c.args.graph.now) c.args.root) c.args.self.now.next.items c.loop-node.members.items c.loop-node.node c.loop-node-test.false c.loop-node.invariant
