use Rattle.std.proofs.Common.{◌≡◌, ◌+◌, ◌≤◌, ◌++◌, length, drop, map}
use Rattle.c_tree.specs.Spell.{joined}
use Rattle.c_tree.specs.Weights.{listed}
use Rattle.c_tree.proofs.pending.Pending.push_each.Given as goal

-- The items from `left` on are put on the stack.
abbrev pub invariant-loop-left : goal.invariant-loop-left
invariant-loop-left g l = record {
  within : l.left ≤ length l.items;
  spells : l.self.0 ≡ joined (map g.T.Listed.spelling (drop l.left l.items)) ++ l.fn.self.0;
  weighs : l.self.1 ≤ listed (map g.T.Listed.weight (drop l.left l.items)) + l.fn.self.1;
}

abbrev pub decreases-loop-left : goal.decreases-loop-left
decreases-loop-left g l = l.left
