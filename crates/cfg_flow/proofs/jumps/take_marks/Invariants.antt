use Rattle.std.proofs.Common.{◌+◌, List, length}
use Rattle.cfg_flow.specs.declared.plan.Jump.{Jump}
use Rattle.cfg_flow.specs.Jumping.{AreAhead}
use Rattle.cfg_flow.proofs.Leaping.{AreTaking}
use Rattle.cfg_flow.proofs.jumps.take_marks.Given as goal

abbrev pub invariant-loop-jump : goal.invariant-loop-jump
invariant-loop-jump l = (all : List Jump) → AreAhead all (l.x + 1) l.fn.ahead.items →
    AreTaking all l.x l.marks.items l.ahead.items

abbrev pub decreases-loop-jump : goal.decreases-loop-jump
decreases-loop-jump l = length l.ahead.items
