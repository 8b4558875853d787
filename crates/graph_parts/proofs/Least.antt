-- The least node with a property.
use Rattle.std.proofs.Common.{◌≡◌, ℕ, ◌≤◌, arith}
use Rattle.graph_parts.specs.Finds.{IsLeast}

-- There is at most one.
pub one_least : (P : ℕ → Type 0) (first second : ℕ) → IsLeast P first → IsLeast P second → first ≡ second
one_least P first second one two =
    let up : first ≤ second = one.least second two.is in
    let down : second ≤ first = two.least first one.is in
    omega arith
