use Rattle.std.proofs.Common.{refl, sym, ◌∙◌}
use Rattle.c_stmt.specs.StatementSets.{a_statement_mark}
use Rattle.c_syntax.proofs.Ahead.{kind_ahead, nothing_ahead}
use Rattle.c_stmt.proofs.ahead.is_at_statement_mark.Goals as goal

pub returns-in-Some : goal.returns-in-Some
returns-in-Some c = c.begins_statement.ensures ∙ kind_ahead a_statement_mark refl c.args.source.now.cursor c.args.source.now.scopes c.in-Some.kind (sym c.in-Some.ensures)

pub returns-in-None : goal.returns-in-None
returns-in-None c = nothing_ahead a_statement_mark refl c.args.source.now.cursor c.args.source.now.scopes (sym c.in-None.ensures)
