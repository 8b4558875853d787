use Rattle.std.proofs.Common.{ℕ, List, length}
use Rattle.cfg_rules.specs.Plan.{Construct}
use Rattle.cfg_rules.specs.Sequence.{AreParts, IsChain, SoFar}
use Rattle.cfg_rules.proofs.sequence.join_parts.Given as goal

abbrev pub invariant-loop-part : goal.invariant-loop-part
invariant-loop-part l = (plan : List Construct) (x : ℕ) → IsChain plan x (length l.parts) →
    AreParts plan x l.parts → SoFar plan x l.part-index l.here l.initial.out l.out
