use Rattle.std.proofs.Common.{rules, ℕ, ◌≤◌, nat_lt, nat_le}
use Rattle.std.proofs.lemmas.Fn.{always_returns_same}
use Rattle.cpg_schema.specs.Names.{kind_rank}
use Rattle.graph_store.specs.declared.edge.Edge.{Edge}
use Rattle.edge_index.proofs.Counting.{no_edge}
use Rattle.edge_index.proofs.Parts.{part_ordered, part_is, parted_below, parted_upto}
use Rattle.edge_index.proofs.row.of_kind.Goals as goal

abbrev position : Edge → ℕ
position e = kind_rank e.kind

pub slice_bounds-result-count : goal.slice_bounds-result-count
slice_bounds-result-count c =
    let row = c.args.row.now in
    let key = kind_rank c.args.kind in
    let begin = c.partition_point-begin.ensures.partitioned (λ (e : Edge). nat_lt (kind_rank e.kind) key)
    (always_returns_same _ _ _ (λ a r f called. (search rules, search rules))) (parted_below position key row c.requires) in
    let end = c.partition_point-end.ensures.partitioned (λ (e : Edge). nat_le (kind_rank e.kind) key)
    (always_returns_same _ _ _ (λ a r f called. (search rules, search rules))) (parted_upto position key row c.requires) in
    part_ordered position key row c.partition_point-begin.result c.partition_point-end.result c.partition_point-begin.ensures.bound c.partition_point-end.ensures.bound
    begin.0 begin.1 end.0 end.1 no_edge

pub slice_bounds-result-start : goal.slice_bounds-result-start
slice_bounds-result-start c =
    let row = c.args.row.now in
    let key = kind_rank c.args.kind in
    let begin = c.partition_point-begin.ensures.partitioned (λ (e : Edge). nat_lt (kind_rank e.kind) key)
    (always_returns_same _ _ _ (λ a r f called. (search rules, search rules))) (parted_below position key row c.requires) in
    let end = c.partition_point-end.ensures.partitioned (λ (e : Edge). nat_le (kind_rank e.kind) key)
    (always_returns_same _ _ _ (λ a r f called. (search rules, search rules))) (parted_upto position key row c.requires) in
    let le : c.partition_point-begin.result ≤ c.partition_point-end.result =
    part_ordered position key row c.partition_point-begin.result c.partition_point-end.result c.partition_point-begin.ensures.bound c.partition_point-end.ensures.bound
    begin.0 begin.1 end.0 end.1 no_edge in
    le

pub returns : goal.returns
returns c =
    let row = c.args.row.now in
    let key = kind_rank c.args.kind in
    let begin = c.partition_point-begin.ensures.partitioned (λ (e : Edge). nat_lt (kind_rank e.kind) key)
    (always_returns_same _ _ _ (λ a r f called. (search rules, search rules))) (parted_below position key row c.requires) in
    let end = c.partition_point-end.ensures.partitioned (λ (e : Edge). nat_le (kind_rank e.kind) key)
    (always_returns_same _ _ _ (λ a r f called. (search rules, search rules))) (parted_upto position key row c.requires) in
    part_is position key row c.partition_point-begin.result c.partition_point-end.result c.partition_point-begin.ensures.bound c.partition_point-end.ensures.bound
    begin.0 begin.1 end.0 end.1 no_edge
