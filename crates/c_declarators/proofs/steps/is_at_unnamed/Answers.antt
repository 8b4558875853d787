use Rattle.std.proofs.Common.{sym, ◌∙◌}
use Rattle.c_specifiers.specs.DeclarationSets.{begins_unnamed}
use Rattle.c_syntax.proofs.Ahead.{kind_ahead, nothing_ahead}
use Rattle.c_declarators.proofs.Alike.{unnamed_alike}
use Rattle.c_declarators.proofs.steps.is_at_unnamed.Goals as goal

pub returns-in-Some : goal.returns-in-Some
returns-in-Some c = c.begins_unnamed.ensures ∙ kind_ahead (begins_unnamed c.args.atomic) (unnamed_alike c.args.atomic) c.args.source.now.cursor c.args.source.now.scopes c.in-Some.kind (sym c.in-Some.ensures)

pub returns-in-None : goal.returns-in-None
returns-in-None c = nothing_ahead (begins_unnamed c.args.atomic) (unnamed_alike c.args.atomic) c.args.source.now.cursor c.args.source.now.scopes (sym c.in-None.ensures)
