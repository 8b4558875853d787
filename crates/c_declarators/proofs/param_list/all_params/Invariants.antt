use Rattle.std.proofs.Common.{◌≡◌, ◌-◌}
use Rattle.reading.specs.Readers.{turn_on}
use Rattle.c_syntax.specs.Scoping.{input_from}
use Rattle.c_declarators.specs.DeclaratorReaders.{all_params, param_turn}
use Rattle.c_declarators.proofs.param_list.all_params.Given as goal

abbrev pub invariant-loop-turn : goal.invariant-loop-turn
invariant-loop-turn g l =
    all_params l.grammar.room (g.N.Inside.readers l.grammar.inside l.grammar.room) l.fn.params (input_from l.fn.source)
    ≡ turn_on (param_turn l.grammar.room (g.N.Inside.readers l.grammar.inside l.grammar.room)) (l._turn-end - l._turn) l.params (input_from l.source)
