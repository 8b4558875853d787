use Rattle.std.proofs.Common.{sym, ◌∙◌, ◌∷◌, []}
use Rattle.c_syntax.specs.Scoping.{input_from}
use Rattle.c_lexer.specs.declared.mark.TheConstants.{MARK_RIGHT_PAREN}
use Rattle.c_reading.specs.Terminals.{mark}
use Rattle.c_specifiers.specs.declared.forms.Place.TheVariants.{Parameter}
use Rattle.c_specifiers.specs.DeclarationSets.{begins_specifiers}
use Rattle.c_specifiers.proofs.Unions.{first_ahead, second_ahead}
use Rattle.c_declarators.proofs.steps.is_at_params.Goals as goal

pub returns-then-is_at_mark : goal.returns-then-is_at_mark
returns-then-is_at_mark c = first_ahead (mark MARK_RIGHT_PAREN ∷ []) (begins_specifiers Parameter) (input_from c.args.source.now) (sym c.is_at_mark.ensures ∙ c.if-is_at_mark.true)

pub returns : goal.returns
returns c = c.is_at_specifiers.ensures ∙ second_ahead (mark MARK_RIGHT_PAREN ∷ []) (begins_specifiers Parameter) (input_from c.args.source.now) (sym c.is_at_mark.ensures ∙ c.if-is_at_mark.false)
