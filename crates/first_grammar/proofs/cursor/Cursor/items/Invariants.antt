use Rattle.std.proofs.Common.{length}
use Rattle.first_grammar.specs.Grammar.{FunctionAt, Runs}
use Rattle.first_grammar.proofs.cursor.Cursor.items.Given as goal

abbrev pub invariant-loop-items : goal.invariant-loop-items
invariant-loop-items l = Runs FunctionAt l.items l.fn.self l.self

abbrev pub decreases-loop-items : goal.decreases-loop-items
decreases-loop-items l = length l.self
