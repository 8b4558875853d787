-- What a planter does (ours): it plants a forest node by node in preorder, and keeps the nodes
-- whose children are not all there yet.
use Rattle.std.specs.Prelude.{ℕ, ◌≡◌, List, [], ◌∷◌, length, Option, Some, None}
use Rattle.cpg_schema.specs.Graph.{PlainNode}
use Rattle.cpg_schema.specs.Deltas.{PlainDelta, empty_delta}
use Rattle.graph_forest.specs.declared.hang.Hang.{Hang}
use Rattle.graph_forest.specs.Forest.{Forest, leaf, with_forest}

-- A planter: the delta so far, and the positions of the nodes that are open, the innermost first.
pub record Planting : Type 0 where
  pub delta : PlainDelta
  pub opened : List ℕ

-- The planter that has planted nothing.
abbrev pub fresh : Planting
fresh = record { delta = empty_delta; opened = [] }

-- The innermost open node, from which the next one hangs.
abbrev pub innermost : List ℕ → Option ℕ
innermost [] = None
innermost (position ∷ outer) = Some position

-- The open nodes without the innermost.
abbrev pub outer_of : List ℕ → List ℕ
outer_of [] = []
outer_of (position ∷ outer) = outer

-- The forest is planted: it hangs from the innermost open node, and the same nodes are open.
pub record Plants (old new : Planting) (forest : Forest) : Type 0 where
  pub delta : new.delta ≡ with_forest (innermost old.opened) forest old.delta
  pub opened : new.opened ≡ old.opened

-- A node is planted, and is the innermost open one.
pub record Enters (old new : Planting) (hang : Hang) (node : PlainNode) : Type 0 where
  pub delta : new.delta ≡ with_forest (innermost old.opened) (leaf hang node) old.delta
  pub opened : new.opened ≡ length old.delta.nodes ∷ old.opened

-- The innermost open node is open no more. Where none is open, nothing changes.
pub record Leaves (old new : Planting) : Type 0 where
  pub delta : new.delta ≡ old.delta
  pub opened : new.opened ≡ outer_of old.opened
