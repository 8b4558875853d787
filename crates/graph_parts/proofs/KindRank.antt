-- A kind is known by its rank.
use Rattle.std.proofs.Common.{◌≡◌, [], ap, sym}
use Rattle.std.specs.declared.cmp.Ordering.{Ordering}
use Rattle.std.specs.declared.cmp.Ordering.TheVariants.{Equal}
use Rattle.std.specs.Ordering.{nat_cmp, ordering_then}
use Rattle.std.specs.Cmp.{nat_cmp_is}
use Rattle.cpg_schema.specs.declared.edge_kind.EdgeKind.{EdgeKind}
use Rattle.cpg_schema.specs.Names.{kind_rank}
use Rattle.cpg_schema.specs.Graph.{PlainEdge}
use Rattle.cpg_schema.specs.Order.{edge_cmp}
use Rattle.cpg_schema.proofs.EdgeOrder.{edge_cmp_exact}

bare : EdgeKind → PlainEdge
bare kind = record { from = 0; kind = kind; to = 0; variable = [] }

pub kind_from_rank : (a b : EdgeKind) → kind_rank a ≡ kind_rank b → a ≡ b
unfolding bare
kind_from_rank a b same =
    let tie : Equal ≡ nat_cmp (kind_rank a) (kind_rank b) = nat_cmp_is (kind_rank a) (kind_rank b) Equal same in
    let ties : edge_cmp (bare a) (bare b) ≡ Equal = ap (λ (o : Ordering). ordering_then o Equal) (sym tie) in
    ap (λ (e : PlainEdge). e.kind) (edge_cmp_exact (bare a) (bare b) ties)
