use Rattle.std.proofs.Common.{◌≡◌, ◌+◌, ◌-◌, ◌<◌, ◌==◌, ℕ, List, filter, length, take, drop, get_or, refl, slice_index, ap, ◌∙◌, arith}
use Rattle.std.proofs.lemmas.List.{get_or_default}
use Rattle.cpg_schema.specs.Names.{kind_rank}
use Rattle.graph_store.specs.declared.edge.Edge.{Edge}
use Rattle.edge_index.specs.Rows.{row_of}
use Rattle.edge_index.proofs.Cuts.{filter-filter}
use Rattle.edge_index.proofs.side.Side.of_kind.Goals as goal

-- the start that was read
at_position : (starts : List ℕ) (n v : ℕ) → n < length starts → v ≡ get_or starts n v → v ≡ slice_index starts n
at_position starts n v low is = is ∙ get_or_default starts n v 0 low

pub returns : goal.returns
returns g c =
    let s = c.args.self.now in
    let from = at_position s.starts.items c.args.node c.index.result.now (omega arith) c.index.ensures in
    let to = at_position s.starts.items (c.args.node + 1) c.index-2.result.now c.requires.inside c.index-2.ensures in
    let row : take (c.index-2.result.now - c.index.result.now) (drop c.index.result.now c.deref.result.now) ≡ row_of s.starts.items s.edges.items c.args.node =
    rw (c.deref.ensures.value, from, to) refl in
    let of_kind = λ (edge : Edge). kind_rank edge.kind == kind_rank c.args.kind in
    c.of_kind.ensures ∙
    (ap (filter of_kind) (row ∙ c.requires.side.rows c.args.node c.requires.inside) ∙
    filter-filter (λ (edge : Edge). g.D.Direction.near_of edge == c.args.node) of_kind s.edges.items)
