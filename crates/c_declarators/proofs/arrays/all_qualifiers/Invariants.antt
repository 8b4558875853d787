use Rattle.std.proofs.Common.{◌≡◌, ◌-◌}
use Rattle.reading.specs.Readers.{go_on}
use Rattle.c_syntax.specs.Scoping.{terminal_of, input_from}
use Rattle.c_specifiers.specs.DeclarationSets.{a_qualifier}
use Rattle.c_declarators.specs.DeclaratorReaders.{all_qualifiers, qualifier}
use Rattle.c_declarators.proofs.arrays.all_qualifiers.Given as goal

abbrev pub invariant-loop-turn : goal.invariant-loop-turn
invariant-loop-turn l =
    all_qualifiers l.room l.fn.qualified (input_from l.fn.source)
    ≡ go_on terminal_of a_qualifier (qualifier l.room) (l._turn-end - l._turn) l.qualified (input_from l.source)
