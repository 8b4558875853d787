-- What a run of a pass does to a graph.
use Rattle.std.specs.Prelude.{ℕ, ◌≡◌, Ok}
use Rattle.cpg_schema.specs.Deltas.{PlainDelta}
use Rattle.cpg_schema.specs.Sequence.{seq}
use Rattle.graph_store.specs.Stored.{StoredGraph, plain}

-- The graph with the deltas of so many parts, one after another. The caps stay.
pub record GrowsByParts (old new : StoredGraph) (delta_of : ℕ → PlainDelta)
    (parts : ℕ) : Type 0 where
  pub is : seq old.caps (plain old) delta_of parts ≡ Ok (plain new)
  pub caps : new.caps ≡ old.caps
