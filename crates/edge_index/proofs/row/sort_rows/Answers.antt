use Rattle.std.proofs.Common.{◌≡◌, ◌+◌, ◌-◌, ◌≤◌, ◌++◌, ℕ, List, length, map, take, drop, slice_index, subst, ap, ◌∙◌, arith}
use Rattle.std.specs.List.Sorted.{IsPermutation}
use Rattle.std.proofs.lemmas.List.{drop-drop}
use Rattle.std.proofs.lemmas.List.Sorted.{IsPermutation-trans, IsPermutation-put_mid, length_permutation}
use Rattle.cpg_schema.specs.Order.{in_order}
use Rattle.graph_store.specs.declared.edge.Edge.{Edge}
use Rattle.edge_index.specs.Rows.{edges_at, below, row_at, seen}
use Rattle.edge_index.proofs.Counting.{below_le, below_more, below_few}
use Rattle.edge_index.proofs.Windows.{Sorting, sorting_none, sorting_one}
use Rattle.edge_index.proofs.WholeSide.{grouped_permutation}
use Rattle.edge_index.proofs.row.sort_rows.Goals as goal

pub loop-node-init : goal.loop-node-init
loop-node-init g c =
    let near = g.D.Direction.near_of in
    let edges = c.args.graph.now.edges in
    sorting_none near g.D.Direction.far_of c.args.graph.now.names edges c.args.edges.now
    (grouped_permutation near edges (length c.args.starts.now - 1) c.args.edges.now c.requires.inside c.requires.grouped) c.requires.grouped

pub slice_bounds-sort_row-count : goal.slice_bounds-sort_row-count
slice_bounds-sort_row-count g c =
    let near = g.D.Direction.near_of in
    let edges = c.args.graph.now.edges in
    let node = c.loop-node.node in
    let from = c.requires.starts.each (node - 1) (omega arith) in
    let to = c.requires.starts.each node c.loop-node-test.true in
    let rises = below_le near (node - 1) node edges (omega arith) in
    omega arith

pub slice_bounds-sort_row-start : goal.slice_bounds-sort_row-start
slice_bounds-sort_row-start g c =
    let near = g.D.Direction.near_of in
    let edges = c.args.graph.now.edges in
    let node = c.loop-node.node in
    let from = c.requires.starts.each (node - 1) (omega arith) in
    let to = c.requires.starts.each node c.loop-node-test.true in
    let rises = below_le near (node - 1) node edges (omega arith) in
    let le : slice_index c.args.starts.now (node - 1) ≤ slice_index c.args.starts.now node = omega arith in
    le

pub slice_bounds-sort_row-end : goal.slice_bounds-sort_row-end
slice_bounds-sort_row-end g c =
    let near = g.D.Direction.near_of in
    let edges = c.args.graph.now.edges in
    let node = c.loop-node.node in
    let to = c.requires.starts.each node c.loop-node-test.true in
    let few = below_few near node edges in
    let size = c.loop-node.invariant.same in
    let le : slice_index c.args.starts.now node ≤ length c.loop-node.edges = omega arith in
    le

-- the turn of a node, whose edges stand from s to e
next_node : (near far : Edge → ℕ) (names : List (List ℕ)) (edges grouped row : List Edge) (node s e : ℕ) → 1 ≤ node →
    s ≡ below near (node - 1) edges → e ≡ below near node edges → Sorting near far names edges grouped node →
    map (seen near far names) row ≡ in_order (map (seen near far names) (take (e - s) (drop s grouped))) →
    IsPermutation (take (e - s) (drop s grouped)) row →
    Sorting near far names edges (take s grouped ++ (row ++ drop (e - s) (drop s grouped))) (node + 1)
next_node near far names edges grouped row node s e some from to h order moved =
    let next : (node - 1) + 1 ≡ node = omega arith in
    let more = subst (λ (n : ℕ). below near n edges ≡ below near (node - 1) edges + length (edges_at near (node - 1) edges)) next (below_more near (node - 1) edges) in
    let size : e - s ≡ length (edges_at near (node - 1) edges) = omega arith in
    let end : s + (e - s) ≡ below near node edges = omega arith in
    let old : take (e - s) (drop s grouped) ≡ row_at near (node - 1) edges grouped =
    ap (λ (n : ℕ). take n (drop s grouped)) size ∙ ap (λ (n : ℕ). take (length (edges_at near (node - 1) edges)) (drop n grouped)) from in
    let rest : drop (e - s) (drop s grouped) ≡ drop (below near node edges) grouped = drop-drop (e - s) s grouped ∙ ap (λ (n : ℕ). drop n grouped) end in
    let all : IsPermutation edges (take s grouped ++ (row ++ drop (e - s) (drop s grouped))) =
    IsPermutation-trans edges grouped _ h.moved (IsPermutation-put_mid s (e - s) grouped row moved) in
    let one = sorting_one near far names edges grouped node row some h
    (order ∙ ap (λ (xs : List Edge). in_order (map (seen near far names) xs)) old) (length_permutation _ row moved ∙ ap length old)
    (rw (← rest, ← from) all) in
    rw (rest, from) one

pub loop-node-preserved : goal.loop-node-preserved
loop-node-preserved g c =
    let near = g.D.Direction.near_of in
    let edges = c.args.graph.now.edges in
    let node = c.loop-node.node in
    let from = c.requires.starts.each (node - 1) (omega arith) in
    let to = c.requires.starts.each node c.loop-node-test.true in
    next_node near g.D.Direction.far_of c.args.graph.now.names edges c.loop-node.edges c.sort_row.new.row node
    (slice_index c.args.starts.now (node - 1)) (slice_index c.args.starts.now node) (omega arith) from to c.loop-node.invariant c.sort_row.ensures.order c.sort_row.ensures.permutation
