use Rattle.std.proofs.Common.{refl, sym, ◌∙◌}
use Rattle.c_stmt.proofs.AheadOfStatements.{second_kind, no_second}
use Rattle.c_stmt.proofs.ahead.is_before_colon.Goals as goal

pub returns-in-Some : goal.returns-in-Some
returns-in-Some c = c.is_colon.ensures ∙ second_kind c.args.source.now.cursor c.args.source.now.scopes c.in-Some.kind (sym c.in-Some.ensures)

pub returns-in-None : goal.returns-in-None
returns-in-None c = no_second c.args.source.now.cursor c.args.source.now.scopes (sym c.in-None.ensures)
