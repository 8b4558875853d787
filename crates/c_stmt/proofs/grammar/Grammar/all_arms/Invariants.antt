use Rattle.std.proofs.Common.{◌≡◌, ◌-◌}
use Rattle.reading.specs.Readers.{turn_on, repeat}
use Rattle.c_syntax.specs.Scoping.{input_from}
use Rattle.c_stmt.specs.StatementReaders.{all_arms, arm_turn}
use Rattle.c_stmt.proofs.grammar.Grammar.all_arms.Given as goal

abbrev pub invariant-loop-turn : goal.invariant-loop-turn
invariant-loop-turn g l =
    all_arms (g.B.Below.readers l.self.below) l.self.room (g.I.Inside.readers l.self.inside l.self.room) l.fn.arms (input_from l.fn.source)
    ≡ turn_on (arm_turn (g.B.Below.readers l.self.below) l.self.room (g.I.Inside.readers l.self.inside l.self.room)) (l._turn-end - l._turn) l.arms (input_from l.source)
