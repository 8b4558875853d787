use Rattle.std.proofs.Common.{List}
use Rattle.cfg_rules.specs.Plan.{Construct, IsPlan}
use Rattle.cfg_flow.specs.declared.jumps.Jumps.{Jumps}
use Rattle.cfg_flow.specs.Tables.{ArePartsTaken, AreReady}
use Rattle.cfg_flow.specs.Steps.{IsSite}
use Rattle.cfg_flow.proofs.site.Site.take_all.Given as goal

abbrev pub invariant-loop-k : goal.invariant-loop-k
invariant-loop-k l = (plan : List Construct) (jumps : Jumps) → IsPlan plan → IsSite plan l.self jumps →
    AreReady plan l.self.x 0 l.fn.table → ArePartsTaken plan l.self.x l.k l.taken.items l.table
