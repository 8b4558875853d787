use Rattle.std.proofs.Common.{◌≡◌, ◌-◌, ◌+◌}
use Rattle.reading.specs.Readers.{turn_on}
use Rattle.c_syntax.specs.Scoping.{input_from}
use Rattle.c_syntax.specs.declared.forms.AssignForm.TheVariants.{Whole}
use Rattle.c_declarations.specs.DeclarationReaders.{more_declarators, declarator_turn}
use Rattle.c_declarations.proofs.declarations.more_declarators.Given as goal

abbrev pub invariant-loop-turn : goal.invariant-loop-turn
invariant-loop-turn g l =
    more_declarators l.grammar.room (g.N.Inside.readers l.grammar.inside l.grammar.room) ((g.N.Inside.readers l.grammar.inside (l.grammar.room + 1)).assign Whole) l.typedef l.fn.declarators (input_from l.fn.source)
    ≡ turn_on (declarator_turn l.grammar.room (g.N.Inside.readers l.grammar.inside l.grammar.room) ((g.N.Inside.readers l.grammar.inside (l.grammar.room + 1)).assign Whole) l.typedef) (l._turn-end - l._turn) l.declarators (input_from l.source)
