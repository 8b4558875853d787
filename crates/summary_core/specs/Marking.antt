-- Marked positions, in a tree (ours).
use Rattle.std.specs.Prelude.{
  ℕ,
  ◌≡◌,
  ◌≢◌,
  ◌+◌,
  ◌*◌,
  ◌<◌,
  ◌≤◌,
  ◌⊎◌,
  ◌↔◌,
  true,
  Bool,
  List,
  length,
  min,
  slice_index,
  Option,
  MatchOption,
}
use Rattle.summary_core.specs.declared.marks.Marks.{Marks}

-- The node is right above the other one.
abbrev pub IsParent : ℕ → ℕ → Type 0
IsParent node child = (child ≡ 2 * node) ⊎ (child ≡ 2 * node + 1)

-- A node holds the lesser of what the two nodes below it hold.
abbrev pub IsSettled : List ℕ → ℕ → Type 0
IsSettled nodes node =
    slice_index nodes node ≡ min (slice_index nodes (2 * node)) (slice_index nodes (2 * node + 1))

-- All nodes above the leaves are settled, and the leaves are as before.
pub record Settles (count : ℕ) (before after : List ℕ) : Type 0 where
  pub len : length after ≡ length before
  pub leaves : (leaf : ℕ) → count ≤ leaf → slice_index after leaf ≡ slice_index before leaf
  pub settled : (node : ℕ) → 1 ≤ node → node < count → IsSettled after node

-- The leaf of a position holds it where it is marked, and otherwise the count.
pub record IsTree (marks : Marks) : Type 0 where
  pub len : length marks.nodes.items ≡ 2 * marks.count
  pub leaves : (position : ℕ) → position < marks.count →
      (slice_index marks.nodes.items (marks.count + position) ≡ position)
      ⊎ (slice_index marks.nodes.items (marks.count + position) ≡ marks.count)
  pub settled : (node : ℕ) → 1 ≤ node → node < marks.count → IsSettled marks.nodes.items node

-- The position is marked.
pub record IsMarked (marks : Marks) (position : ℕ) : Type 0 where
  pub below : position < marks.count
  pub holds : slice_index marks.nodes.items (marks.count + position) ≡ position

-- The mark of one position is set or taken away, and the others stay.
pub record Puts (before after : Marks) (position : ℕ) (marked : Bool) : Type 0 where
  pub tree : IsTree after
  pub count : after.count ≡ before.count
  pub own : IsMarked after position ↔ (marked ≡ true)
  pub others : (other : ℕ) → other ≢ position → IsMarked after other ↔ IsMarked before other

-- The position is marked, and no lesser one is.
pub record IsLeastMarked (marks : Marks) (position : ℕ) : Type 0 where
  pub marked : IsMarked marks position
  pub least : (other : ℕ) → other < position → ¬ IsMarked marks other

-- The least marked position, where there is one.
abbrev pub IsLeast : Marks → Option ℕ → Type 0
IsLeast marks found =
    MatchOption found ((position : ℕ) → ¬ IsMarked marks position) (IsLeastMarked marks)
