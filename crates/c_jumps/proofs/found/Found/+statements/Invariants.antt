use Rattle.std.proofs.Common.{◌≡◌, map, take}
use Rattle.c_jumps.specs.Walk.{arm_jumps, block_item_jumps, with_parts}
use Rattle.c_jumps.proofs.found.Found.+statements.Given as goal

-- What stands in the items so far was added.
abbrev pub invariant-block-loop-item : goal.invariant-block-loop-item
invariant-block-loop-item l =
    l.self ≡ with_parts l.fn.self (map block_item_jumps (take l.item-index l.items)) l.around

-- What is done where one of the conditions so far holds was added.
abbrev pub invariant-kind-loop-arm : goal.invariant-kind-loop-arm
invariant-kind-loop-arm l =
    l.self ≡ with_parts l.fn.self (map arm_jumps (take l.arm-index l.arms)) l.around
