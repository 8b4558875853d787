-- Sets of vertices.
use Rattle.std.specs.Prelude.{ℕ, ◌≡◌, ◌<◌, ◌↔◌, ◌++◌, true, false, Bool, List, length}
use Rattle.std.specs.Prelude.{slice_index_or}
use Rattle.std.specs.List.{All, Contains}

-- How many vertices there are, and those that were met.
pub record Vertices : Type 0 where
  pub count : ℕ
  pub met : List ℕ

-- The set grows by vertices that are so, and keeps what was met at its position.
pub record Grows (IsSo : ℕ → Type 0) (before after : Vertices) : Type 0 where
  pub count : after.count ≡ before.count
  pub more : List ℕ
  pub kept : after.met ≡ before.met ++ more
  pub new : All IsSo more

-- The vertex is met, and no other one is new.
pub record Meets (before after : Vertices) (vertex : ℕ) : Type 0 where
  pub grows : Grows (λ new. new ≡ vertex) before after
  pub met : Contains after.met vertex

-- All ends of ways from the vertex were met.
abbrev pub FollowsAll : List (ℕ × ℕ) → ℕ → Vertices → Type 0
FollowsAll ways from set = (to : ℕ) → Contains ways (from, to) → Contains set.met to

-- The marks are at the vertices that were met.
pub record AreMarked (marks : List Bool) (met : List ℕ) : Type 0 where
  pub below : All (λ vertex. vertex < length marks) met
  pub each : (vertex : ℕ) → vertex < length marks →
      (slice_index_or marks vertex false ≡ true) ↔ Contains met vertex
