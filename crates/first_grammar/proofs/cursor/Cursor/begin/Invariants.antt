use Rattle.std.proofs.Common.{length}
use Rattle.first_grammar.specs.Rest.{Rest}
use Rattle.first_grammar.specs.Grammar.{OperandAt, Runs, TargetAt}
use Rattle.first_grammar.proofs.cursor.Cursor.begin.Given as goal

-- the last operand that was read stands after the targets
abbrev pub invariant-loop-equal : goal.invariant-loop-equal
invariant-loop-equal l =
    (between : Rest) × Runs TargetAt l.targets l.fn.self between × OperandAt l.operand between l.self

abbrev pub decreases-loop-equal : goal.decreases-loop-equal
decreases-loop-equal l = length l.self
