use Rattle.std.proofs.Common.{◌≡◌, List, map, subst, sym, ap, ◌∙◌, arith}
use Rattle.std.specs.Result.{OnOk}
use Rattle.c_tree.specs.declared.tree.BlockItem.{BlockItem}
use Rattle.c_jumps.specs.Walk.{FoundJumps, arm_jumps, block_item_jumps, stmt_jumps, with_parts}
use Rattle.c_jumps.proofs.Parts.{all_added, block_found, if_found, if_else_found, one_more_added, switch_done}
use Rattle.c_jumps.proofs.found.Found.+statements.Goals as goal

pub block-loop-item-preserved : goal.block-loop-item-preserved
block-loop-item-preserved t c =
    one_more_added block_item_jumps c.args.self.now c.loop-item.self c.block_item.new.self c.items-items.result.now c.loop-item.item-index c.item-item.result c.args.around
    c.loop-item-test.true c.item-item.is c.loop-item.invariant c.in_ok-block_item.ensures

pub block-returns : goal.block-returns
block-returns t c =
    all_added block_item_jumps c.args.self.now c.loop-item.self c.items-items.result.now c.loop-item.item-index c.args.around c.loop-item-test.false c.loop-item.invariant ∙
    (ap (λ (items : List BlockItem). with_parts c.args.self.now (map block_item_jumps items) c.args.around) c.items-items.ensures ∙
    sym (block_found c.args.self.now c.args.block.now c.args.around))

pub kind-loop-arm-preserved : goal.kind-loop-arm-preserved
unfolding arm_jumps
kind-loop-arm-preserved t c =
    one_more_added arm_jumps c.args.self.now c.loop-arm.self c.stmt.new.self c.items-arms.result.now c.loop-arm.arm-index c.arm-item.result c.args.around
    c.loop-arm-test.true c.arm-item.is c.loop-arm.invariant c.in_ok-stmt-in-If.ensures

pub kind-returns-in-Some : goal.kind-returns-in-Some
kind-returns-in-Some t c =
    let all = all_added arm_jumps c.args.self.now c.loop-arm.self c.items-arms.result.now c.loop-arm.arm-index c.args.around c.loop-arm-test.false c.loop-arm.invariant in
    grind (arith, if_else_found)

pub kind-returns-in-None : goal.kind-returns-in-None
kind-returns-in-None t c =
    let all = all_added arm_jumps c.args.self.now c.loop-arm.self c.items-arms.result.now c.loop-arm.arm-index c.args.around c.loop-arm-test.false c.loop-arm.invariant in
    grind (arith, if_found)

pub switch-returns : goal.switch-returns
switch-returns t c =
    subst (λ (found : FoundJumps). OnOk c.end_switch.result (c.end_switch.new.self ≡ found))
    (switch_done c.args.self.now c.stmt.new.self (stmt_jumps c.args.body.now) c.defaults_len-outer.result c.args.around c.switch_body.result
    c.defaults_len-outer.ensures c.in_ok-stmt.ensures c.switch_body.ensures)
    c.end_switch.ensures
