-- The edges of a flow graph (ours).
use Rattle.std.specs.Prelude.{ℕ, List}
use Rattle.std.specs.List.{Contains}
use Rattle.matched_paths.specs.declared.flow_graph.Crossing.{Crossing}
use Rattle.matched_paths.specs.declared.flow_graph.FlowGraph.{FlowGraph}

-- A flat edge leads from a to b.
abbrev pub HasFlat : FlowGraph → ℕ → ℕ → Type 0
HasFlat flow a b = Contains flow.flat (a, b)

-- The call opens an edge from a to b.
abbrev pub HasOpen : FlowGraph → ℕ → ℕ → ℕ → Type 0
HasOpen flow call a b = Contains flow.opens (record { call = call; from = a; to = b })

-- The call closes an edge from a to b.
abbrev pub HasClose : FlowGraph → ℕ → ℕ → ℕ → Type 0
HasClose flow call a b = Contains flow.closes (record { call = call; from = a; to = b })

-- One of the crossings, of whatever call, leads from a to b.
abbrev pub Crosses : List Crossing → ℕ → ℕ → Type 0
Crosses crossings a b = (call : ℕ) × Contains crossings (record { call = call; from = a; to = b })

-- An open of some call leads from a to b.
abbrev pub Opens : FlowGraph → ℕ → ℕ → Type 0
Opens flow = Crosses flow.opens

-- A close of some call leads from a to b.
abbrev pub Closes : FlowGraph → ℕ → ℕ → Type 0
Closes flow = Crosses flow.closes

-- A goal is a vertex to which an open leads.
abbrev pub IsGoal : FlowGraph → ℕ → Type 0
IsGoal flow vertex = (a : ℕ) × Opens flow a vertex

-- An out is a vertex from which a close leads.
abbrev pub IsOut : FlowGraph → ℕ → Type 0
IsOut flow vertex = (b : ℕ) × Closes flow vertex b
