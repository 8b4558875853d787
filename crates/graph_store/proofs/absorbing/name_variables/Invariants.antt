use Rattle.std.proofs.Common.{◌≡◌, ◌++◌, map, take, drop}
use Rattle.graph_store.specs.GrownRows.{edge_within}
use Rattle.graph_store.proofs.absorbing.name_variables.Given as goal

-- The edges so far have their variables, and the others are as they were.
abbrev pub invariant-loop-edge : goal.invariant-loop-edge
invariant-loop-edge l =
    l.edges ≡ map (edge_within l.count) (take l.edge-index l.fn.edges) ++ drop l.edge-index l.fn.edges
