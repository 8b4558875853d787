-- The closed table of summaries.
use Rattle.std.specs.Prelude.{ℕ, ◌≡◌, ◌<◌, ◌↔◌, List}
use Rattle.std.specs.List.{All, AllPairs, Contains}
use Rattle.matched_paths.specs.declared.flow_graph.FlowGraph.{FlowGraph}
use Rattle.matched_paths.specs.declared.flow_graph.Pair.{Pair}
use Rattle.matched_paths.specs.Wanted.{IsWantedPair}

-- A table: its flow graph, its starts, and pairs.
pub record Table : Type 0 where
  pub flow : FlowGraph
  pub starts : List ℕ
  pub pairs : List Pair

-- The pair stands before the other: by goal and then by out.
pub data Precedes (a b : Pair) : Type 0 where
  by_goal : a.goal < b.goal → Precedes a b
  by_out : a.goal ≡ b.goal → a.out < b.out → Precedes a b

-- The pairs are exactly the true pairs of the goals that the starts want, rising; the starts are
-- vertices.
pub record IsClosed (table : Table) : Type 0 where
  pub starts : All (λ start. start < table.flow.vertices) table.starts
  pub exact : (pair : Pair) →
      Contains table.pairs pair ↔ IsWantedPair table.flow table.starts pair
  pub rise : AllPairs Precedes table.pairs
