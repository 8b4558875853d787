-- Where the crossings of a flow graph stand.
use Rattle.std.specs.Prelude.{ℕ, ◌≡◌, ◌<◌, ◌+◌, ◌*◌, ◌%◌, ◌^◌, map}
use Rattle.matched_paths.specs.declared.flow_graph.FlowGraph.{FlowGraph}
use Rattle.flow_index.specs.declared.bridging.CrossingIndex.{CrossingIndex}
use Rattle.flow_index.specs.declared.bridging.TheConstants.{CALL_FACTOR, GOAL_FACTOR}
use Rattle.flow_index.specs.Positions.{Keys}

-- The slot of the opens of a call to a goal: a multiplicative hash of both (Knuth, "The Art of
-- Computer Programming", volume 3, 6.4), modulo the number of slots.
unfoldable pub slot_of : ℕ → ℕ → ℕ → ℕ
slot_of slots call goal =
    (call * CALL_FACTOR % 2 ^ 32 + goal * GOAL_FACTOR % 2 ^ 32) % 2 ^ 32 % slots

-- The closes by where they begin.
pub record AreOutPositions (flow : FlowGraph) (keys : Keys) : Type 0 where
  pub count : keys.count ≡ flow.vertices
  pub outs : keys.keys ≡ map (λ crossing. crossing.from) flow.closes

-- The opens by the slots of their calls and goals.
pub record AreEntryPositions (flow : FlowGraph) (keys : Keys) : Type 0 where
  pub some : 0 < keys.count
  pub slots : keys.keys ≡ map (λ crossing. slot_of keys.count crossing.call crossing.to) flow.opens

-- The index is of the flow graph's crossings.
pub record IsIndexOf (flow : FlowGraph) (index : CrossingIndex) : Type 0 where
  pub outs : AreOutPositions flow index.by_out
  pub entries : AreEntryPositions flow index.by_entry
  pub slots : index.slots ≡ index.by_entry.count
