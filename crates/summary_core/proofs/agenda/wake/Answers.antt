use Rattle.summary_core.proofs.Noting.{waking_end, waking_none}
use Rattle.summary_core.proofs.agenda.wake.Goals as goal

pub loop-asker-init : goal.loop-asker-init
loop-asker-init c = waking_none c.args.tasks.now c.args.askers.now c.args.marks.now c.requires.tree

pub returns : goal.returns
returns c = waking_end c.args.tasks.now c.args.askers.now c.args.marks.now c.loop-asker.marks c.loop-asker.asker-index c.loop-asker-test.false c.loop-asker.invariant
