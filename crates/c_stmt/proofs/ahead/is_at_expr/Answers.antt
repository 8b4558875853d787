use Rattle.std.proofs.Common.{refl, sym, ◌∙◌}
use Rattle.c_syntax.specs.Scoping.{input_from}
use Rattle.c_stmt.specs.StatementSets.{expr_mark}
use Rattle.c_syntax.proofs.Ahead.{kind_ahead, nothing_ahead}
use Rattle.c_stmt.proofs.AheadOfStatements.{expr_by_a_name, expr_by_a_mark}
use Rattle.c_stmt.proofs.ahead.is_at_expr.Goals as goal

pub returns-then-is_at_name : goal.returns-then-is_at_name
returns-then-is_at_name c = expr_by_a_name (input_from c.args.source.now) (sym c.is_at_name.ensures ∙ c.if-is_at_name.true)

pub returns-in-Some : goal.returns-in-Some
returns-in-Some c =
    (c.begins_expression.ensures ∙ kind_ahead expr_mark refl c.args.source.now.cursor c.args.source.now.scopes c.in-Some.kind (sym c.in-Some.ensures))
    ∙ expr_by_a_mark (input_from c.args.source.now) (sym c.is_at_name.ensures ∙ c.if-is_at_name.false)

pub returns-in-None : goal.returns-in-None
returns-in-None c =
    nothing_ahead expr_mark refl c.args.source.now.cursor c.args.source.now.scopes (sym c.in-None.ensures)
    ∙ expr_by_a_mark (input_from c.args.source.now) (sym c.is_at_name.ensures ∙ c.if-is_at_name.false)
