use Rattle.std.proofs.Common.{◌≡◌, ◌-◌}
use Rattle.reading.specs.Readers.{go_on}
use Rattle.c_syntax.specs.Scoping.{terminal_of, input_from}
use Rattle.c_specifiers.specs.DeclarationSets.{begins_word}
use Rattle.c_specifiers.specs.SpecifierReaders.{all_words, more_words}
use Rattle.c_specifiers.proofs.grammar.Grammar.all_words.Given as goal

abbrev pub invariant-loop-turn : goal.invariant-loop-turn
invariant-loop-turn g l =
    all_words l.self.room (g.N.Inside.readers l.self.inside l.self.room) l.place l.fn.specified (input_from l.fn.source)
    ≡ go_on terminal_of (begins_word l.place) (more_words l.self.room (g.N.Inside.readers l.self.inside l.self.room) l.place) (l._turn-end - l._turn) l.specified (input_from l.source)
