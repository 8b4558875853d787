-- A graph without edges is shaped.
use Rattle.std.proofs.Common.{◌≡◌, ℕ, []}
use Rattle.cpg_schema.specs.Shape.{IsAbove, child as child_of, descendant, IsAstEdgeAt, IsShaped}

no_edge_at : (position parent child : ℕ) → ¬ IsAstEdgeAt [] position parent child
no_edge_at position parent child at = let is = at.edge_is in cc

none_above : (ancestor node : ℕ) → ¬ IsAbove [] ancestor node
none_above ancestor _ (child_of position node at) = no_edge_at position ancestor node at
none_above ancestor _ (descendant position parent node above at) = no_edge_at position parent node at

-- the empty graph is shaped
pub empty_shaped : IsShaped (record { nodes = []; edges = [] })
empty_shaped = record {
  one_parent = λ first second parent other node one two. absurd (no_edge_at first parent node one);
  no_cycle = λ node above. none_above node node above;
}
