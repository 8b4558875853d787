use Rattle.std.proofs.Common.{◌≡◌, ◌-◌}
use Rattle.reading.specs.Readers.{turn_on}
use Rattle.c_syntax.specs.Scoping.{input_from}
use Rattle.c_specifiers.specs.SpecifierReaders.{all_members, member_turn}
use Rattle.c_specifiers.proofs.grammar.Grammar.all_members.Given as goal

abbrev pub invariant-loop-turn : goal.invariant-loop-turn
invariant-loop-turn g l =
    all_members l.self.room (g.N.Inside.readers l.self.inside l.self.room) l.fn.members (input_from l.fn.source)
    ≡ turn_on (member_turn l.self.room (g.N.Inside.readers l.self.inside l.self.room)) (l._turn-end - l._turn) l.members (input_from l.source)
