use Rattle.std.proofs.Common.{◌≡◌, ℕ, ◌<◌, ◌*◌, ◌+◌, length, get_or}
use Rattle.summary_core.proofs.Marking.{Building}
use Rattle.summary_core.proofs.marks.Marks.all.Given as goal

abbrev pub invariant-loop-position : goal.invariant-loop-position
invariant-loop-position l = record {
  len : length l.nodes.items ≡ 2 * l.count;
  leaves : (k : ℕ) → k < l.position → get_or l.nodes.items (l.count + k) 0 ≡ k;
}

abbrev pub invariant-loop-node : goal.invariant-loop-node
invariant-loop-node l = Building l.count l.nodes.items l.node

abbrev pub decreases-loop-node : goal.decreases-loop-node
decreases-loop-node l = l.node
