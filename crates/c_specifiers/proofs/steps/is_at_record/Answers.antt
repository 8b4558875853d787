use Rattle.std.proofs.Common.{refl, sym, ◌∙◌}
use Rattle.c_syntax.specs.Sets.{a_record}
use Rattle.c_syntax.proofs.Ahead.{kind_ahead, nothing_ahead}
use Rattle.c_specifiers.proofs.steps.is_at_record.Goals as goal

pub returns-in-Some : goal.returns-in-Some
returns-in-Some c = c.is_record.ensures ∙ kind_ahead a_record refl c.args.source.now.cursor c.args.source.now.scopes c.in-Some.kind (sym c.in-Some.ensures)

pub returns-in-None : goal.returns-in-None
returns-in-None c = nothing_ahead a_record refl c.args.source.now.cursor c.args.source.now.scopes (sym c.in-None.ensures)
