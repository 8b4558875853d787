-- Paths: steps one after another.
use Rattle.std.specs.Prelude.{ℕ, List}
use Rattle.std.specs.List.{Contains}

-- Steps of this kind lead from a to b, none or more.
pub data Path (Step : ℕ → ℕ → Type 0) : ℕ → ℕ → Type 0 where
  none : {a : ℕ} → Path Step a a
  step : {a b c : ℕ} → Step a b → Path Step b c → Path Step a c

-- Each step of the path is so.
abbrev pub EachStep : {Step : ℕ → ℕ → Type 0} → ((a b : ℕ) → Step a b → Type 0) → {a b : ℕ} →
    Path Step a b → Type 0
EachStep IsSo none = Unit {0}
EachStep IsSo (step {a} {b} first rest) = IsSo a b first × EachStep IsSo rest

-- One of the starts leads to the vertex.
pub record IsLedTo (Leads : ℕ → ℕ → Type 0) (starts : List ℕ) (vertex : ℕ) : Type 0 where
  pub start : ℕ
  pub among : Contains starts start
  pub leads : Leads start vertex
