use Rattle.std.proofs.Common.{◌≡◌, ◌-◌, [], ◌∷◌}
use Rattle.reading.specs.Readers.{go_on}
use Rattle.c_syntax.specs.Scoping.{terminal_of, input_from}
use Rattle.c_reading.specs.Terminals.{mark}
use Rattle.c_lexer.specs.declared.mark.TheConstants.{MARK_STAR}
use Rattle.c_declarators.specs.DeclaratorReaders.{all_pointers, pointer}
use Rattle.c_declarators.proofs.arrays.all_pointers.Given as goal

abbrev pub invariant-loop-turn : goal.invariant-loop-turn
invariant-loop-turn l =
    all_pointers l.room l.fn.pointing (input_from l.fn.source)
    ≡ go_on terminal_of (mark MARK_STAR ∷ []) (pointer l.room) (l._turn-end - l._turn) l.pointing (input_from l.source)
