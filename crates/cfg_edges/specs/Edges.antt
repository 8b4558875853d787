-- The edges of a plan, as a function (ours).
use Rattle.std.specs.Prelude.{ℕ, zero, suc, ◌+◌, ◌≡◌, ◌<◌, ◌≤◌, Bool, ◌&&◌, ◌||◌}
use Rattle.std.specs.Prelude.{List, [], ◌∷◌, Some}
use Rattle.std.specs.Prelude.{if◌then◌else◌, filter, length}
use Rattle.cfg_rules.specs.Plan.{Construct, Breaks, Continues, end_of}
use Rattle.cfg_rules.specs.Walker.{Position, mark_of}
use Rattle.cfg_edges.specs.Reaching.{reaches}
use Rattle.cfg_edges.specs.Steps.{Move, all_moves, same_position}

-- The position is no mark.
abbrev pub is_between : Position → Bool
is_between (mark_of x) = Bool.false
is_between _ = Bool.true

-- The steps that begin at no mark.
unfoldable pub silent_moves : List Move → List Move
silent_moves [] = []
silent_moves (move ∷ moves) =
    if is_between move.0 then move ∷ silent_moves moves else silent_moves moves

-- One of the steps begins at the mark a, and from its end silent steps lead to the mark b.
unfoldable pub leads : List Move → List Move → ℕ → ℕ → Bool
leads [] silent a b = Bool.false
leads (move ∷ moves) silent a b =
    (same_position move.0 (mark_of a) && reaches same_position silent move.1 (mark_of b))
    || leads moves silent a b

-- Control flows from the mark a to the mark b.
abbrev pub flows : List Construct → ℕ → ℕ → Bool
flows plan a b = leads (all_moves plan) (silent_moves (all_moves plan)) a b

-- The pairs of a with so many numbers, from this one on; and of so many numbers with so many.
unfoldable pub pairs_with : ℕ → ℕ → ℕ → List (ℕ × ℕ) → List (ℕ × ℕ)
pairs_with a b zero rest = rest
pairs_with a b (suc count) rest = (a, b) ∷ pairs_with a (b + 1) count rest

unfoldable pub pairs_from : ℕ → ℕ → ℕ → List (ℕ × ℕ)
pairs_from a zero width = []
pairs_from a (suc count) width = pairs_with a 0 width (pairs_from (a + 1) count width)

-- The edges of the plan among so many marks, rising.
abbrev pub edges_within : ℕ → List Construct → List (ℕ × ℕ)
edges_within count plan =
    filter (λ edge. flows plan edge.0 edge.1) (pairs_from 0 count count)

-- All marks of the plan are among so many.
pub record IsWithin (count : ℕ) (plan : List Construct) : Type 0 where
  pub constructs : length plan ≤ count
  pub ends : (x end : ℕ) → end_of plan x ≡ Some end → end < count
  pub breaks : (x a : ℕ) → Breaks plan x a → a < count
  pub continues : (x a k : ℕ) → Continues plan x a k → a < count
