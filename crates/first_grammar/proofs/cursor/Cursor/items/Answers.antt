use Rattle.std.proofs.Common.{Err, sym, ap, ◌∙◌, subst}
use Rattle.std.proofs.lemmas.Result.{err_from_is_err_and}
use Rattle.first_grammar.specs.Grammar.{FunctionAt, ItemsAt, Runs}
use Rattle.first_grammar.proofs.Fails.{fails, items_later}
use Rattle.first_grammar.proofs.Runs.{runs_push}
use Rattle.first_grammar.proofs.Unique.{function_shrinks}
use Rattle.first_grammar.proofs.cursor.Cursor.items.Goals as goal

pub returns-in_err-function : goal.returns-in_err-function
returns-in_err-function c =
    let err = err_from_is_err_and c.from_residual.result c.from_residual.ensures.1 in
    fails FunctionAt ItemsAt c.loop-items.self c.function.new.self c.args.self.now c.function.new.self
    c.in_err-function.field-0.0 c.from_residual.result (err.1 ∙ ap (λ e. Err e) err.2)
    c.in_err-function.ensures
    (items_later c.loop-items.items c.args.self.now c.loop-items.self c.loop-items.invariant
    (λ none. let seen = c.is_done.ensures.1 none in absurd (cc (seen, c.loop-items-test.true))))

pub loop-items-smaller : goal.loop-items-smaller
loop-items-smaller c =
    function_shrinks c.in_ok-function.field-0 c.loop-items.self c.function.new.self c.in_ok-function.ensures

pub loop-items-preserved : goal.loop-items-preserved
loop-items-preserved c =
    let run = runs_push FunctionAt c.loop-items.items c.in_ok-function.field-0 c.args.self.now c.loop-items.self
    c.function.new.self c.loop-items.invariant c.in_ok-function.ensures in
    subst (λ xs. Runs FunctionAt xs c.args.self.now c.function.new.self) (sym c.in_ok-push.ensures.ok) run
