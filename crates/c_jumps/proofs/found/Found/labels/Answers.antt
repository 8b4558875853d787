use Rattle.std.proofs.Common.{sym}
use Rattle.c_jumps.specs.Walk.{mark_jumps}
use Rattle.c_jumps.proofs.Parts.{one_more_added, with_parts-nil}
use Rattle.c_jumps.proofs.found.Found.labels.Goals as goal

pub loop-label-init : goal.loop-label-init
loop-label-init c = sym (with_parts-nil c.args.self.now c.args.around)

pub loop-label-preserved : goal.loop-label-preserved
loop-label-preserved c =
    one_more_added mark_jumps c.args.self.now c.loop-label.self c.label.new.self c.args.labels.now c.loop-label.label-index c.label-item.result c.args.around
    c.loop-label-test.true c.label-item.is c.loop-label.invariant c.in_ok-label.ensures
