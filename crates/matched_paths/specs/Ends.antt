-- The ends of edges (ours).
use Rattle.std.specs.Prelude.{ℕ, ◌<◌, List}
use Rattle.std.specs.List.{All}
use Rattle.matched_paths.specs.declared.flow_graph.Crossing.{Crossing}

-- Both ends of an edge without a label are among so many vertices.
abbrev pub HasEndsAmong : ℕ → ℕ × ℕ → Type 0
HasEndsAmong vertices edge = (edge.0 < vertices) × (edge.1 < vertices)

-- Both ends of a crossing are among so many vertices.
pub record IsAmong (vertices : ℕ) (crossing : Crossing) : Type 0 where
  pub from : crossing.from < vertices
  pub to : crossing.to < vertices

-- All ends of flat edges, of opens and of closes are among so many vertices.
pub record AreWithin (vertices : ℕ) (edges : List (ℕ × ℕ)) (entries returns : List Crossing) :
    Type 0 where
  pub flat : All (HasEndsAmong vertices) edges
  pub opens : All (IsAmong vertices) entries
  pub closes : All (IsAmong vertices) returns
