use Rattle.std.proofs.Common.{refl, sym, ◌∙◌}
use Rattle.c_specifiers.specs.DeclarationSets.{a_storage_class}
use Rattle.c_syntax.proofs.Ahead.{kind_ahead, nothing_ahead}
use Rattle.c_specifiers.proofs.steps.is_at_storage_class.Goals as goal

pub returns-in-Some : goal.returns-in-Some
returns-in-Some c = c.is_storage_class.ensures ∙ kind_ahead a_storage_class refl c.args.source.now.cursor c.args.source.now.scopes c.in-Some.kind (sym c.in-Some.ensures)

pub returns-in-None : goal.returns-in-None
returns-in-None c = nothing_ahead a_storage_class refl c.args.source.now.cursor c.args.source.now.scopes (sym c.in-None.ensures)
