use Rattle.std.proofs.Common.{refl, sym, ◌∙◌}
use Rattle.c_syntax.specs.Scoping.{input_from}
use Rattle.c_stmt.proofs.AheadOfStatements.{plain_by_a_mark, plain_by_expr}
use Rattle.c_stmt.proofs.ahead.is_at_plain.Goals as goal

pub returns-then-is_at_statement_mark : goal.returns-then-is_at_statement_mark
returns-then-is_at_statement_mark c = plain_by_a_mark (input_from c.args.source.now) (sym c.is_at_statement_mark.ensures ∙ c.if-is_at_statement_mark.true)

pub returns : goal.returns
returns c = c.is_at_expr.ensures ∙ plain_by_expr (input_from c.args.source.now) (sym c.is_at_statement_mark.ensures ∙ c.if-is_at_statement_mark.false)
