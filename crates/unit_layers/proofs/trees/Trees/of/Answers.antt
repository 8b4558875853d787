use Rattle.std.proofs.Common.{◌≡◌, ◌+◌, ◌-◌, ℕ, slice_set, sym, subst, arith}
use Rattle.std.proofs.lemmas.List.{get_or_read}
use Rattle.graph_store.specs.Stored.{plain}
use Rattle.unit_layers.proofs.Chaining.{Chained, chained_more}
use Rattle.unit_layers.proofs.Places.{root_low, root_same}
use Rattle.unit_layers.proofs.trees.Trees.of.Goals as goal

pub index-requires : goal.index-requires
index-requires c =
    let is = c.requires.places.roots (c.loop-node.node - 1) c.root_of-root.result c.root_of-root.ensures in
    let low = root_low (plain c.args.graph.now) c.law_stored.ensures.is_graph (c.loop-node.node - 1) c.root_of-root.result (omega arith) is in
    omega arith

pub index_mut-requires-in-loop-node : goal.index_mut-requires-in-loop-node
index_mut-requires-in-loop-node c =
    let is = c.requires.places.roots (c.loop-node.node - 1) c.root_of-root.result c.root_of-root.ensures in
    let low = root_low (plain c.args.graph.now) c.law_stored.ensures.is_graph (c.loop-node.node - 1) c.root_of-root.result (omega arith) is in
    omega arith

pub loop-node-preserved : goal.loop-node-preserved
loop-node-preserved c =
    let graph = plain c.args.graph.now in
    let first = c.loop-node.first.items in
    let next = c.loop-node.next.items in
    let node = c.loop-node.node - 1 in
    let root = c.root_of-root.result in
    let is = c.requires.places.roots node root c.root_of-root.ensures in
    let low = root_low graph c.law_stored.ensures.is_graph node root (omega arith) is in
    let same : c.loop-node.node ≡ c.loop-node.node - 1 + 1 = omega arith in
    let chained = subst (λ (k : ℕ). Chained graph first next k) same c.loop-node.invariant in
    let read = get_or_read first root c.index.result.now (omega arith) c.index.ensures 0 in
    let small = c.law_stored.ensures.small_nodes in
    let few = c.law_stored.ensures.few_nodes in
    subst (λ (k : ℕ). Chained graph (slice_set first root node) (slice_set next node k) node) (sym read)
    (chained_more graph first next node root chained (λ none. omega arith) (root_same graph c.requires.shaped c.law_stored.ensures.is_graph node root is) low)
