use Rattle.std.proofs.Common.{◌≡◌, ◌-◌}
use Rattle.reading.specs.Readers.{turn_on, repeat}
use Rattle.c_syntax.specs.Scoping.{input_from}
use Rattle.c_syntax.specs.ExpressionReaders.{links, link}
use Rattle.c_syntax.proofs.grammar.Grammar.links.Given as goal

abbrev pub invariant-loop-turn : goal.invariant-loop-turn
invariant-loop-turn g l =
    links l.self.room (g.N.Inner.readers l.self.inner l.self.room) l.fn.chain (input_from l.fn.source)
    ≡ turn_on (link l.self.room (g.N.Inner.readers l.self.inner l.self.room)) (l._turn-end - l._turn) l.chain (input_from l.source)
