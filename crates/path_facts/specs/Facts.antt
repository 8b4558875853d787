-- Facts (Reps, Horwitz and Sagiv 1995): a vertex and a goal, from which a matched path leads to it.
use Rattle.std.specs.Prelude.{ℕ, ◌≡◌, ◌≤◌, ◌<◌, List, map, length}
use Rattle.std.specs.List.{All, Contains}
use Rattle.matched_paths.specs.declared.flow_graph.FlowGraph.{FlowGraph}
use Rattle.matched_paths.specs.Edges.{HasFlat}
use Rattle.matched_paths.specs.Matched.{Matched}
use Rattle.flow_index.specs.Crossings.{IsIndexOf}
use Rattle.flow_index.specs.Ways.{AreAmong, BridgesOver}
use Rattle.path_facts.specs.declared.ground.Ground.{Ground}
use Rattle.path_facts.specs.declared.pair_set.PairSet.{PairSet}
use Rattle.path_facts.specs.PairSets.{Grows, IsKept, pair_at}

-- Some fact is of the goal.
abbrev pub HasGoal : PairSet → ℕ → Type 0
HasGoal facts goal = (vertex : ℕ) × Contains facts.pairs.items (vertex, goal)

-- The facts are that each of the goals leads to itself.
pub record Begins (count : ℕ) (goals : List ℕ) (facts : PairSet) : Type 0 where
  pub kept : IsKept facts
  pub count_is : facts.by_first.count ≡ count
  pub sound : All (λ fact. Contains goals fact.1 × (fact.0 ≡ fact.1)) facts.pairs.items
  pub all : All (λ goal. Contains facts.pairs.items (goal, goal)) goals

-- The goals that lead to the one vertex lead to the other, and no other fact is new.
pub record Spreads (from to : ℕ) (before after : PairSet) : Type 0 where
  pub grows : Grows (λ fact. (fact.0 ≡ to) × Contains before.pairs.items (from, fact.1))
      before after
  pub all : (goal : ℕ) → Contains before.pairs.items (from, goal) →
      Contains after.pairs.items (to, goal)

-- The flow graph's flat edges and crossings.
pub record IsGround (flow : FlowGraph) (ground : Ground) : Type 0 where
  pub count : ground.flat.count ≡ flow.vertices
  pub keys : ground.flat.keys ≡ map (λ edge. edge.0) flow.flat
  pub crossings : IsIndexOf flow ground.crossings

-- Facts and bridges are so of the flow graph. The first facts were followed along all flat edges
-- and bridges, and over the pairs of the first of them all bridges stand.
pub record Tabulates (flow : FlowGraph) (facts bridges : PairSet) (followed spanned : ℕ) :
    Type 0 where
  pub facts_kept : IsKept facts
  pub bridges_kept : IsKept bridges
  pub facts_count : facts.by_first.count ≡ flow.vertices
  pub bridges_count : bridges.by_first.count ≡ flow.vertices
  pub among : AreAmong flow.vertices bridges.pairs.items
  pub matched : All (λ fact. Matched flow fact.1 fact.0) facts.pairs.items
  pub bridges_matched : All (λ way. Matched flow way.0 way.1) bridges.pairs.items
  pub within : followed ≤ length facts.pairs.items
  pub behind : spanned ≤ followed
  pub flat : (k to : ℕ) → k < followed → HasFlat flow (pair_at facts k).0 to →
      Contains facts.pairs.items (to, (pair_at facts k).1)
  pub bridged : (k to : ℕ) → k < followed →
      Contains bridges.pairs.items ((pair_at facts k).0, to) →
      Contains facts.pairs.items (to, (pair_at facts k).1)
  pub spans : (k : ℕ) (way : ℕ × ℕ) → k < spanned →
      BridgesOver flow (record { goal = (pair_at facts k).1; out = (pair_at facts k).0 }) way →
      Contains bridges.pairs.items way
