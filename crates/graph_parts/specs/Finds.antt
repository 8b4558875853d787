-- What a search for a node finds (ours).
use Rattle.std.specs.Prelude.{ℕ, ◌≤◌, Option, Some, None}

-- Nothing has the property, or the result has it.
abbrev pub Finds : (ℕ → Type 0) → Option ℕ → Type 0
Finds P None = (node : ℕ) → ¬ P node
Finds P (Some node) = P node

-- The node has the property, and no node of a lower number has it.
pub record IsLeast (P : ℕ → Type 0) (node : ℕ) : Type 0 where
  pub is : P node
  pub least : (other : ℕ) → P other → node ≤ other
