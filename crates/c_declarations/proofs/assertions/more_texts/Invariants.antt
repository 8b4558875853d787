use Rattle.std.proofs.Common.{◌≡◌, ◌-◌, [], ◌∷◌}
use Rattle.reading.specs.Readers.{go_on}
use Rattle.c_syntax.specs.Scoping.{terminal_of, input_from}
use Rattle.c_reading.specs.Terminals.{TEXT}
use Rattle.c_declarations.specs.DeclarationReaders.{more_texts, more_text}
use Rattle.c_declarations.proofs.assertions.more_texts.Given as goal

abbrev pub invariant-loop-turn : goal.invariant-loop-turn
invariant-loop-turn g l =
    more_texts l.grammar.room (g.N.Inside.readers l.grammar.inside l.grammar.room) l.fn.texts (input_from l.fn.source)
    ≡ go_on terminal_of (TEXT ∷ []) (more_text l.grammar.room (g.N.Inside.readers l.grammar.inside l.grammar.room)) (l._turn-end - l._turn) l.texts (input_from l.source)
