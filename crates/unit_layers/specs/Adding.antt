-- A delta with more (ours).
use Rattle.std.specs.Prelude.{List, ◌++◌}
use Rattle.cpg_schema.specs.Deltas.{NewEdge, PlainDelta}

-- The delta with more edges.
abbrev pub with_edges : List NewEdge → PlainDelta → PlainDelta
with_edges edges delta = record delta { edges = delta.edges ++ edges }
