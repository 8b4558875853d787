use Rattle.std.proofs.Common.{sym, ◌∙◌}
use Rattle.c_syntax.specs.Scoping.{input_from}
use Rattle.c_syntax.specs.Sets.{a_typedef_name}
use Rattle.c_specifiers.specs.DeclarationSets.{begins_word}
use Rattle.c_specifiers.proofs.Unions.{first_ahead, second_ahead}
use Rattle.c_specifiers.proofs.steps.is_at_specifiers.Goals as goal

pub returns-then-is_at_typedef_name : goal.returns-then-is_at_typedef_name
returns-then-is_at_typedef_name c = first_ahead a_typedef_name (begins_word c.args.place) (input_from c.args.source.now) (sym c.is_at_typedef_name.ensures ∙ c.if-is_at_typedef_name.true)

pub returns : goal.returns
returns c = c.is_at_more_specifiers.ensures ∙ second_ahead a_typedef_name (begins_word c.args.place) (input_from c.args.source.now) (sym c.is_at_typedef_name.ensures ∙ c.if-is_at_typedef_name.false)
