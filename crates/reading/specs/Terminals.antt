-- Terminals of a grammar, and sets of them. A terminal is what the grammar tells apart of tokens.
-- It is a number, so that sets are compared by computing.

use Rattle.std.specs.Prelude.{ℕ, Bool, true, false, not, ◌==◌, ◌||◌, ◌&&◌, List, [], ◌∷◌}

-- The terminal is in the set.
abbrev pub has : List ℕ → ℕ → Bool
has [] terminal = false
has (other ∷ set) terminal = (other == terminal) || has set terminal

-- Each terminal of the first set is in the second.
abbrev pub is_within : List ℕ → List ℕ → Bool
is_within [] other = true
is_within (terminal ∷ set) other = has other terminal && is_within set other

-- No terminal is in both sets.
abbrev pub are_disjoint : List ℕ → List ℕ → Bool
are_disjoint [] other = true
are_disjoint (terminal ∷ set) other = not (has other terminal) && are_disjoint set other
