use Rattle.std.proofs.Common.{◌≡◌, ◌+◌, ◌≤◌, ◌++◌, length, drop}
use Rattle.c_tree.specs.Spell.{all_wanted}
use Rattle.c_tree.proofs.pending.Pending.push_tokens.Given as goal

-- The tokens from `left` on are put on the stack.
abbrev pub invariant-loop-left : goal.invariant-loop-left
invariant-loop-left l = record {
  within : l.left ≤ length l.tokens;
  spells : l.self.0 ≡ all_wanted l.want (drop l.left l.tokens) ++ l.fn.self.0;
  weighs : l.self.1 + l.left ≡ length l.tokens + l.fn.self.1;
}

abbrev pub decreases-loop-left : goal.decreases-loop-left
decreases-loop-left l = l.left
