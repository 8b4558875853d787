use Rattle.std.proofs.Common.{◌≡◌, ◌-◌, ◌+◌}
use Rattle.reading.specs.Readers.{turn_on}
use Rattle.c_syntax.specs.Scoping.{input_from}
use Rattle.c_syntax.specs.declared.forms.AssignForm.TheVariants.{Constant}
use Rattle.c_declarations.specs.DeclarationReaders.{more_member_declarators, member_declarator_turn}
use Rattle.c_declarations.proofs.members.more_member_declarators.Given as goal

abbrev pub invariant-loop-turn : goal.invariant-loop-turn
invariant-loop-turn g l =
    more_member_declarators l.grammar.room (g.N.Inside.readers l.grammar.inside l.grammar.room) ((g.N.Inside.readers l.grammar.inside (l.grammar.room + 1)).assign Constant) l.fn.declarators (input_from l.fn.source)
    ≡ turn_on (member_declarator_turn l.grammar.room (g.N.Inside.readers l.grammar.inside l.grammar.room) ((g.N.Inside.readers l.grammar.inside (l.grammar.room + 1)).assign Constant)) (l._turn-end - l._turn) l.declarators (input_from l.source)
