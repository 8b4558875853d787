use Rattle.std.proofs.Common.{refl, sym, ◌∙◌}
use Rattle.c_specifiers.specs.DeclarationSets.{a_qualifier}
use Rattle.c_syntax.proofs.Ahead.{kind_ahead, nothing_ahead}
use Rattle.c_declarators.proofs.steps.is_at_qualifier.Goals as goal

pub returns-in-Some : goal.returns-in-Some
returns-in-Some c = c.is_qualifier.ensures ∙ kind_ahead a_qualifier refl c.args.source.now.cursor c.args.source.now.scopes c.in-Some.kind (sym c.in-Some.ensures)

pub returns-in-None : goal.returns-in-None
returns-in-None c = nothing_ahead a_qualifier refl c.args.source.now.cursor c.args.source.now.scopes (sym c.in-None.ensures)
