use Rattle.std.proofs.Common.{Err, sym, ap, ◌∙◌, subst}
use Rattle.std.proofs.lemmas.Result.{err_from_is_err_and}
use Rattle.first_grammar.specs.Grammar.{Runs, StatementAt, StatementsAt}
use Rattle.first_grammar.proofs.Fails.{fails, statements_later}
use Rattle.first_grammar.proofs.Runs.{runs_push}
use Rattle.first_grammar.proofs.Unique.{statement_shrinks}
use Rattle.first_grammar.proofs.cursor.Cursor.statements.Goals as goal

pub returns-in_err-statement : goal.returns-in_err-statement
returns-in_err-statement c =
    let err = err_from_is_err_and c.from_residual.result c.from_residual.ensures.1 in
    fails StatementAt StatementsAt c.loop-items.self c.statement.new.self c.args.self.now c.statement.new.self
    c.in_err-statement.field-0.0 c.from_residual.result (err.1 ∙ ap (λ e. Err e) err.2)
    c.in_err-statement.ensures
    (statements_later c.loop-items.items c.args.self.now c.loop-items.self c.loop-items.invariant
    (λ at. let seen = c.is_at.ensures.1 at in absurd (cc (seen, c.loop-items-test.true))))

pub loop-items-smaller : goal.loop-items-smaller
loop-items-smaller c =
    statement_shrinks c.in_ok-statement.field-0 c.loop-items.self c.statement.new.self c.in_ok-statement.ensures

pub loop-items-preserved : goal.loop-items-preserved
loop-items-preserved c =
    let run = runs_push StatementAt c.loop-items.items c.in_ok-statement.field-0 c.args.self.now c.loop-items.self
    c.statement.new.self c.loop-items.invariant c.in_ok-statement.ensures in
    subst (λ xs. Runs StatementAt xs c.args.self.now c.statement.new.self) (sym c.in_ok-push.ensures.ok) run
