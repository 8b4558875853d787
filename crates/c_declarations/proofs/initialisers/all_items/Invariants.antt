use Rattle.std.proofs.Common.{◌≡◌, ◌-◌}
use Rattle.reading.specs.Readers.{turn_on}
use Rattle.c_syntax.specs.Scoping.{input_from}
use Rattle.c_declarations.specs.InitialiserReaders.{all_items, item_turn}
use Rattle.c_declarations.proofs.initialisers.all_items.Given as goal

abbrev pub invariant-loop-turn : goal.invariant-loop-turn
invariant-loop-turn g l =
    all_items l.grammar.room (g.N.Inside.readers l.grammar.inside l.grammar.room) l.fn.items (input_from l.fn.source)
    ≡ turn_on (item_turn l.grammar.room (g.N.Inside.readers l.grammar.inside l.grammar.room)) (l._turn-end - l._turn) l.items (input_from l.source)
