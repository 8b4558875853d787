use Rattle.std.proofs.Common.{sym, ◌∙◌}
use Rattle.c_specifiers.specs.DeclarationSets.{begins_word}
use Rattle.c_syntax.proofs.Ahead.{kind_ahead, nothing_ahead}
use Rattle.c_specifiers.proofs.Unions.{word_alike}
use Rattle.c_specifiers.proofs.steps.is_at_more_specifiers.Goals as goal

pub returns-in-Some : goal.returns-in-Some
returns-in-Some c = c.begins_word.ensures ∙ kind_ahead (begins_word c.args.place) (word_alike c.args.place) c.args.source.now.cursor c.args.source.now.scopes c.in-Some.kind (sym c.in-Some.ensures)

pub returns-in-None : goal.returns-in-None
returns-in-None c = nothing_ahead (begins_word c.args.place) (word_alike c.args.place) c.args.source.now.cursor c.args.source.now.scopes (sym c.in-None.ensures)
