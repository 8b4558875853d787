use Rattle.std.proofs.Common.{◌≡◌, ◌++◌, map, take}
use Rattle.c_tree.specs.Jumps.{blame}
use Rattle.c_jumps.specs.Faults.{fault_of}
use Rattle.c_jumps.proofs.fault.Faults.push_each.Given as goal

-- The faults of the tokens so far were added.
abbrev pub invariant-loop-token : goal.invariant-loop-token
invariant-loop-token l =
    l.self ≡ l.fn.self ++ map (blame (fault_of l.fault)) (take l.token-index l.tokens)
