-- What a graph keeps, and when deltas fit it (ours).
use Rattle.std.specs.Prelude.{ℕ, ◌≡◌, ◌<◌, IsTrue, List, ◌++◌, Some, length, map}
use Rattle.std.specs.Prelude.{slice_get}
use Rattle.std.specs.List.{All, Contains}
use Rattle.cpg_schema.specs.declared.end.End.{End}
use Rattle.cpg_schema.specs.declared.end.End.TheVariants.{Old, New}
use Rattle.cpg_schema.specs.Graph.{PlainNode, PlainEdge, PlainGraph, IsVariableOf}
use Rattle.cpg_schema.specs.Schema.{allows}
use Rattle.cpg_schema.specs.Properties.{HasForm, LacksKey}
use Rattle.cpg_schema.specs.Deltas.{NewEdge, Setting, PlainDelta, added_edge}

-- The ends of the edge are nodes, the schema allows an edge of its kind between them, and it has no
-- variable but on a REACHING_DEF.
pub record IsEdgeAmong (nodes : List PlainNode) (edge : PlainEdge) : Type 0 where
  pub from : PlainNode
  pub from_is : slice_get nodes edge.from ≡ Some from
  pub to : PlainNode
  pub to_is : slice_get nodes edge.to ≡ Some to
  pub allowed : IsTrue (allows edge.kind from.label to.label)
  pub variable : IsVariableOf edge.kind edge.variable

-- The graph is well formed: its edges are among its nodes.
pub record IsGraph (graph : PlainGraph) : Type 0 where
  pub edges : All (IsEdgeAmong graph.nodes) graph.edges

-- An end in the graph is one of so many nodes.
abbrev pub IsOldEnd : ℕ → End → Type 0
IsOldEnd count (Old node) = node < count
IsOldEnd count (New position) = Unit {0}

-- The setting is of a node that lacks the key, and its value has the key's form.
pub record IsNewSetting (nodes : List PlainNode) (setting : Setting) : Type 0 where
  pub node : PlainNode
  pub node_is : slice_get nodes setting.node ≡ Some node
  pub lacks : LacksKey setting.key node
  pub form : HasForm setting.key setting.value

-- Two settings are of one node and one key.
pub record AreOfOneKey (first second : Setting) : Type 0 where
  pub node : first.node ≡ second.node
  pub key : first.key ≡ second.key

-- No two of the settings are of one node and one key.
pub record AreApart (settings : List Setting) : Type 0 where
  pub same : (first second : ℕ) (one other : Setting) →
      slice_get settings first ≡ Some one → slice_get settings second ≡ Some other →
      AreOfOneKey one other → first ≡ second

-- The delta fits the graph: the ends in the graph are nodes of it, the schema allows each edge, and
-- no key is set where it is there, or twice at one node.
pub record Fits (graph : PlainGraph) (delta : PlainDelta) : Type 0 where
  pub old_from : All (λ (edge : NewEdge). IsOldEnd (length graph.nodes) edge.from) delta.edges
  pub old_to : All (λ (edge : NewEdge). IsOldEnd (length graph.nodes) edge.to) delta.edges
  pub allowed :
      All (IsEdgeAmong (graph.nodes ++ delta.nodes))
      (map (added_edge (length graph.nodes)) delta.edges)
  pub settings : All (IsNewSetting graph.nodes) delta.settings
  pub apart : AreApart delta.settings

-- The deltas of so many parts fit the graph as it was at the start: each of them does, and no two
-- of them set one key at one node.
pub record PartsFit (start : PlainGraph) (delta_of : ℕ → PlainDelta) (parts : ℕ) : Type 0 where
  pub each : (part : ℕ) → part < parts → Fits start (delta_of part)
  pub apart : (first second : ℕ) (one other : Setting) → first < parts → second < parts →
      Contains (delta_of first).settings one → Contains (delta_of second).settings other →
      AreOfOneKey one other → first ≡ second
