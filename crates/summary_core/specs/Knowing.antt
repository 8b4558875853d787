-- What is known of a history.
use Rattle.std.specs.Prelude.{ℕ, ◌≡◌, ◌<◌, ◌≤◌, List, length, slice_index_or}
use Rattle.std.specs.List.{All, Contains}
use Rattle.matched_paths.specs.declared.flow_graph.Pair.{Pair}
use Rattle.summary_core.specs.declared.known.Known.{Known}

-- The goal and the out of a pair.
abbrev pub ends_of : Pair → ℕ × ℕ
ends_of pair = (pair.goal, pair.out)

-- What is known stands in the history, and the first pairs of it are known.
pub record KnowsFront (known : Known) (history : List Pair) : Type 0 where
  pub within : known.taken ≤ length history
  pub sound : All (λ ends. Contains history (record { goal = ends.0; out = ends.1 }))
      known.pairs.keys
  pub front : (position : ℕ) (d : Pair) → position < known.taken →
      Contains known.pairs.keys (ends_of (slice_index_or history position d))

-- Exactly the pairs of the history are known.
pub record Knows (known : Known) (history : List Pair) : Type 0 where
  pub knows : KnowsFront known history
  pub all : known.taken ≡ length history
