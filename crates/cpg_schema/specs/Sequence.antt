-- Deltas one after another (ours), and the caps that end them.
use Rattle.std.specs.Prelude.{ℕ, zero, suc, ◌+◌, nat_lt, if◌then◌else◌, length, Option, Some, None}
use Rattle.std.specs.Prelude.{Result, Ok, Err}
use Rattle.cpg_schema.specs.declared.caps.Caps.{Caps}
use Rattle.cpg_schema.specs.Graph.{PlainGraph}
use Rattle.cpg_schema.specs.Deltas.{PlainDelta, applied}

-- The two caps of a graph.
pub data Cap : Type 0 where
  nodes : Cap
  edges : Cap

-- The cap that the graph would pass with the delta: that of the nodes before that of the edges.
abbrev pub cap_met : Caps → PlainGraph → PlainDelta → Option Cap
cap_met caps graph delta =
    if nat_lt caps.nodes (length graph.nodes + length delta.nodes) then Some Cap.nodes
    else (if nat_lt caps.edges (length graph.edges + length delta.edges) then Some Cap.edges
    else None)

-- The graph with one more delta, or the cap that it would pass.
abbrev pub grown : Caps → PlainGraph → PlainDelta → Result PlainGraph Cap
grown caps graph delta = by (cap_met caps graph delta)
  where
    by : Option Cap → Result PlainGraph Cap
    by None = Ok (applied graph delta)
    by (Some cap) = Err cap

-- Each part's delta applied to the start, in order, until one would pass a cap. All the deltas are
-- of the graph as it was at the start.
abbrev pub seq : Caps → PlainGraph → (ℕ → PlainDelta) → ℕ → Result PlainGraph Cap
seq caps start delta_of zero = Ok start
seq caps start delta_of (suc part) = next (seq caps start delta_of part)
  where
    next : Result PlainGraph Cap → Result PlainGraph Cap
    next (Ok graph) = grown caps graph (delta_of part)
    next (Err cap) = Err cap
