use Rattle.std.proofs.Common.{◌≡◌, ◌-◌, ◌++◌, ℕ, List, length, drop, take, ap, sym, subst, arith}
use Rattle.std.proofs.lemmas.List.{take_at}
use Rattle.graph_store.specs.declared.edge.Edge.{Edge}
use Rattle.edge_index.specs.Indexed.{AreInOrder}
use Rattle.edge_index.specs.Rows.{seen, AreRows, AreStarts, IsSide}
use Rattle.edge_index.proofs.WholeSide.{are_in_order, is_side}
use Rattle.edge_index.proofs.side.Side.of.Goals as goal

pub returns-clause-order : goal.returns-clause-order
returns-clause-order g c =
    let near = g.D.Direction.near_of in
    let far = g.D.Direction.far_of in
    let graph = c.args.graph.now in
    let side = c.in_ok-side.side in
    let now = c.sort_rows.new.edges in
    let kept : length now ≡ length c.deref_mut.result.now = c.sort_rows.auto.edges in
    let value = ap length c.deref_mut.ensures.value in
    let full = side.edges.ok in
    let is : take side.edges.len (now ++ drop (length now) side.edges.items) ≡ now = take_at now (drop (length now) side.edges.items) side.edges.len (omega arith) in
    let starts = ap length c.deref.ensures.value in
    let len = c.in_ok-side.ensures.len in
    let count : length c.deref.result.now - 1 ≡ c.args.count = omega arith in
    let rows = subst (λ (n : ℕ). AreRows near far graph.names n graph.edges now) count c.sort_rows.ensures.rows in
    subst (AreInOrder (seen near far graph.names) graph.edges) (sym is)
    (are_in_order near far graph.names c.args.count graph.edges now c.requires.inside rows c.sort_rows.ensures.permutation)

pub returns-clause-side : goal.returns-clause-side
returns-clause-side g c =
    let near = g.D.Direction.near_of in
    let far = g.D.Direction.far_of in
    let graph = c.args.graph.now in
    let side = c.in_ok-side.side in
    let now = c.sort_rows.new.edges in
    let kept : length now ≡ length c.deref_mut.result.now = c.sort_rows.auto.edges in
    let value = ap length c.deref_mut.ensures.value in
    let full = side.edges.ok in
    let is : take side.edges.len (now ++ drop (length now) side.edges.items) ≡ now = take_at now (drop (length now) side.edges.items) side.edges.len (omega arith) in
    let starts = ap length c.deref.ensures.value in
    let len = c.in_ok-side.ensures.len in
    let count : length c.deref.result.now - 1 ≡ c.args.count = omega arith in
    let rows = subst (λ (n : ℕ). AreRows near far graph.names n graph.edges now) count c.sort_rows.ensures.rows in
    let cuts = subst (λ (edges : List Edge). AreStarts near edges side.starts.items) c.edges.ensures c.in_ok-side.ensures.starts in
    subst (IsSide near side.starts.items) (sym is)
    (is_side near far graph.names c.args.count graph.edges now c.requires.inside rows c.sort_rows.ensures.permutation side.starts.items len cuts)
