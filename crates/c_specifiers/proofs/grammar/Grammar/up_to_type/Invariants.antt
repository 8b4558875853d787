use Rattle.std.proofs.Common.{◌≡◌, ◌-◌}
use Rattle.reading.specs.Readers.{turn_on}
use Rattle.c_syntax.specs.Scoping.{input_from}
use Rattle.c_specifiers.specs.SpecifierReaders.{up_to_type, untyped_turn}
use Rattle.c_specifiers.proofs.grammar.Grammar.up_to_type.Given as goal

abbrev pub invariant-loop-turn : goal.invariant-loop-turn
invariant-loop-turn g l =
    up_to_type l.self.room (g.N.Inside.readers l.self.inside l.self.room) l.place (input_from l.fn.source)
    ≡ turn_on (untyped_turn l.self.room (g.N.Inside.readers l.self.inside l.self.room) l.place) (l._turn-end - l._turn) l.specified (input_from l.source)
