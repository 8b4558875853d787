use Rattle.std.proofs.Common.{◌≡◌, ◌-◌}
use Rattle.reading.specs.Readers.{go_on}
use Rattle.c_syntax.specs.Scoping.{terminal_of, input_from}
use Rattle.c_specifiers.specs.DeclarationSets.{begins_designator}
use Rattle.c_declarations.specs.InitialiserReaders.{all_designators, more_designators}
use Rattle.c_declarations.proofs.initialisers.all_designators.Given as goal

abbrev pub invariant-loop-turn : goal.invariant-loop-turn
invariant-loop-turn g l =
    all_designators l.grammar.room (g.N.Inside.readers l.grammar.inside l.grammar.room) l.fn.designators (input_from l.fn.source)
    ≡ go_on terminal_of begins_designator (more_designators l.grammar.room (g.N.Inside.readers l.grammar.inside l.grammar.room)) (l._turn-end - l._turn) l.designators (input_from l.source)
