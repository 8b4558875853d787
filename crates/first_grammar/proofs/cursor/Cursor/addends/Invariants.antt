use Rattle.std.proofs.Common.{length}
use Rattle.first_grammar.specs.Grammar.{AddendAt, Runs}
use Rattle.first_grammar.proofs.cursor.Cursor.addends.Given as goal

abbrev pub invariant-loop-plus : goal.invariant-loop-plus
invariant-loop-plus l = Runs AddendAt l.addends l.fn.self l.self

abbrev pub decreases-loop-plus : goal.decreases-loop-plus
decreases-loop-plus l = length l.self
