use Rattle.std.proofs.Common.{◌≡◌, map, take}
use Rattle.c_jumps.specs.Walk.{mark_jumps, with_parts}
use Rattle.c_jumps.proofs.found.Found.labels.Given as goal

-- The labels so far were added.
abbrev pub invariant-loop-label : goal.invariant-loop-label
invariant-loop-label l =
    l.self ≡ with_parts l.fn.self (map mark_jumps (take l.label-index l.labels)) l.around
