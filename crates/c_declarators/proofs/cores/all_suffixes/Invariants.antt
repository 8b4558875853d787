use Rattle.std.proofs.Common.{◌≡◌, ◌-◌}
use Rattle.reading.specs.Readers.{go_on}
use Rattle.c_syntax.specs.Scoping.{terminal_of, input_from}
use Rattle.c_specifiers.specs.DeclarationSets.{begins_suffix}
use Rattle.c_declarators.specs.DeclaratorReaders.{all_suffixes, more_suffixes}
use Rattle.c_declarators.proofs.cores.all_suffixes.Given as goal

abbrev pub invariant-loop-turn : goal.invariant-loop-turn
invariant-loop-turn g l =
    all_suffixes l.grammar.room (g.N.Inside.readers l.grammar.inside l.grammar.room) l.named l.fn.suffixes (input_from l.fn.source)
    ≡ go_on terminal_of begins_suffix (more_suffixes l.grammar.room (g.N.Inside.readers l.grammar.inside l.grammar.room) l.named) (l._turn-end - l._turn) l.suffixes (input_from l.source)
