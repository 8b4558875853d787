use Rattle.std.proofs.Common.{◌∷◌, sym, ◌∙◌}
use Rattle.c_lexer.specs.declared.mark.TheConstants.{MARK_STAR}
use Rattle.c_reading.specs.Terminals.{mark}
use Rattle.c_specifiers.specs.DeclarationSets.{begins_either}
use Rattle.c_syntax.proofs.Ahead.{kind_ahead, nothing_ahead}
use Rattle.c_declarators.proofs.Alike.{some_either_alike}
use Rattle.c_declarators.proofs.steps.is_at_some_either.Goals as goal

pub returns-in-Some : goal.returns-in-Some
returns-in-Some c = c.begins_some_either.ensures ∙ kind_ahead (mark MARK_STAR ∷ begins_either c.args.atomic) (some_either_alike c.args.atomic) c.args.source.now.cursor c.args.source.now.scopes c.in-Some.kind (sym c.in-Some.ensures)

pub returns-in-None : goal.returns-in-None
returns-in-None c = nothing_ahead (mark MARK_STAR ∷ begins_either c.args.atomic) (some_either_alike c.args.atomic) c.args.source.now.cursor c.args.source.now.scopes (sym c.in-None.ensures)
