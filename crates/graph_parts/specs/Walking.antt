-- A walk over the trees of a graph from their roots downwards (ours), and what is so on its way.
use Rattle.std.specs.Prelude.{ℕ, ◌≡◌, ◌<◌, ◌==◌, List, ◌++◌, Option, Some, None, if◌then◌else◌}
use Rattle.std.specs.Prelude.{length, slice_index}
use Rattle.std.specs.List.{Contains, IsDistinct}
use Rattle.cpg_schema.specs.Graph.{PlainGraph}
use Rattle.graph_parts.specs.declared.places.TheConstants.{NO_NODE}
use Rattle.graph_parts.specs.declared.walk.Walk.{Walk}
use Rattle.graph_parts.specs.Finds.{Finds}
use Rattle.graph_parts.specs.Parts.{IsChild}
use Rattle.graph_parts.specs.Standing.{IsMethodAbove, IsRootOf}

-- The number of a node, where it is one.
abbrev pub node_or_none : ℕ → Option ℕ
node_or_none number = if number == NO_NODE then None else Some number

-- A node stands here.
pub record IsPlace (graph : PlainGraph) (node method root : ℕ) : Type 0 where
  pub method_is : Finds (IsMethodAbove graph node) (node_or_none method)
  pub root_is : IsRootOf graph node root

-- The walk has come to this node: it knows its root.
pub record IsPlaced (walk : Walk) (node : ℕ) : Type 0 where
  pub has_root : ¬ (slice_index walk.roots.items node ≡ NO_NODE)

-- What is so of a walk over this graph: its order has the nodes to which it has come, each once,
-- and it knows where they stand.
pub record IsWalk (graph : PlainGraph) (walk : Walk) : Type 0 where
  pub method_count : length walk.methods.items ≡ length graph.nodes
  pub root_count : length walk.roots.items ≡ length graph.nodes
  pub distinct : IsDistinct (λ a b. a == b) walk.order.items
  pub within : (node : ℕ) → Contains walk.order.items node → node < length graph.nodes
  pub ordered : (node : ℕ) → node < length graph.nodes → IsPlaced walk node →
      Contains walk.order.items node
  pub placed : (node : ℕ) → Contains walk.order.items node → IsPlaced walk node
  pub known : (node : ℕ) → Contains walk.order.items node →
      IsPlace graph node (slice_index walk.methods.items node) (slice_index walk.roots.items node)

-- The walk has gone on: it has come to more nodes, and to those to which it had.
pub record GoesOn (old new : Walk) : Type 0 where
  pub more : List ℕ
  pub order : new.order.items ≡ old.order.items ++ more
  pub keeps : (node : ℕ) → IsPlaced old node → IsPlaced new node

-- The walk has come to the roots.
pub record HasRoots (graph : PlainGraph) (walk : Walk) : Type 0 where
  pub each : (node : ℕ) → node < length graph.nodes → ((parent : ℕ) → ¬ IsChild graph parent node) →
      IsPlaced walk node

-- The walk has come to the children of this node.
pub record HasChildren (graph : PlainGraph) (node : ℕ) (walk : Walk) : Type 0 where
  pub each : (child : ℕ) → IsChild graph node child → IsPlaced walk child

-- The walk has come to all nodes.
pub record HasAll (graph : PlainGraph) (walk : Walk) : Type 0 where
  pub each : (node : ℕ) → node < length graph.nodes → IsPlaced walk node
