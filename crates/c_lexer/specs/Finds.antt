-- An optional result.

use Rattle.std.specs.Prelude.{Option, Some, None}

-- Nothing has the property, or the result has it.
abbrev pub Finds : {A : Type 0} → (A → Type 0) → Option A → Type 0
Finds P None = (x : _) → ¬ P x
Finds P (Some x) = P x
