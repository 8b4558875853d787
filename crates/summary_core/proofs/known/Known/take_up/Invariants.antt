use Rattle.std.proofs.Common.{length, ◌-◌}
use Rattle.summary_core.specs.Knowing.{KnowsFront}
use Rattle.summary_core.proofs.known.Known.take_up.Given as goal

abbrev pub invariant-loop-self : goal.invariant-loop-self
invariant-loop-self l = KnowsFront l.self l.history

abbrev pub decreases-loop-self : goal.decreases-loop-self
decreases-loop-self l = length l.history - l.self.taken
