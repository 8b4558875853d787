-- The edges of a plan (ours).
use Rattle.std.specs.Prelude.{ℕ, ◌≡◌, ◌<◌, ◌↔◌, ◌⊎◌, List}
use Rattle.std.specs.List.{AllPairs, Contains}
use Rattle.cfg_rules.specs.Plan.{Construct}
use Rattle.cfg_rules.specs.Walker.{Flows}

-- The one edge comes before the other: by from, and then by to.
abbrev pub IsBefore : ℕ × ℕ → ℕ × ℕ → Type 0
IsBefore one other = (one.0 < other.0) ⊎ ((one.0 ≡ other.0) × (one.1 < other.1))

-- The edges rise, so that each stands there once.
abbrev pub IsRising : List (ℕ × ℕ) → Type 0
IsRising edges = AllPairs IsBefore edges

-- The edges are those along which control flows from mark to mark, rising.
pub record AreFlow (plan : List Construct) (edges : List (ℕ × ℕ)) : Type 0 where
  pub flow : (a b : ℕ) → Contains edges (a, b) ↔ Flows plan a b
  pub rising : IsRising edges
