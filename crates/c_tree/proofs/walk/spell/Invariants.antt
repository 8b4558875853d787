use Rattle.std.proofs.Common.{◌≡◌, ◌++◌}
use Rattle.c_tree.specs.Spell.{unit_spelling}
use Rattle.c_tree.proofs.walk.spell.Given as goal

-- what was written, and then what the parts that are left spell, is the whole
abbrev pub invariant-loop-part : goal.invariant-loop-part
invariant-loop-part l = l.symbols.items ++ l.pending.0 ≡ unit_spelling l.unit

abbrev pub decreases-loop-part : goal.decreases-loop-part
decreases-loop-part l = l.pending.1
