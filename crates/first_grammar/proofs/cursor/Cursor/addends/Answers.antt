use Rattle.std.proofs.Common.{Err, sym, ap, ◌∙◌, subst}
use Rattle.std.proofs.lemmas.Result.{err_from_is_err_and}
use Rattle.first_grammar.specs.Grammar.{AddendAt, AddendsAt, OperandAt, Runs}
use Rattle.first_grammar.proofs.Fails.{addends_later, fails}
use Rattle.first_grammar.proofs.Runs.{runs_push}
use Rattle.first_grammar.proofs.cursor.Cursor.addends.Goals as goal

pub returns-in_err-operand : goal.returns-in_err-operand
returns-in_err-operand c =
    let err = err_from_is_err_and c.from_residual.result c.from_residual.ensures.1 in
    fails OperandAt AddendsAt c.take_if.new.self c.operand.new.self c.args.self.now c.operand.new.self
    c.in_err-operand.field-0.0 c.from_residual.result (err.1 ∙ ap (λ e. Err e) err.2) c.in_err-operand.ensures
    (addends_later c.loop-plus.addends c.in-Some.plus c.args.self.now c.loop-plus.self c.take_if.new.self
    c.loop-plus.invariant c.in-Some.ensures)

pub loop-plus-preserved : goal.loop-plus-preserved
loop-plus-preserved c =
    let run = runs_push AddendAt c.loop-plus.addends (c.in-Some.plus, c.in_ok-operand.operand) c.args.self.now
    c.loop-plus.self c.operand.new.self c.loop-plus.invariant
    (c.take_if.new.self, c.in-Some.ensures, c.in_ok-operand.ensures) in
    subst (λ xs. Runs AddendAt xs c.args.self.now c.operand.new.self) (sym c.in_ok-add.ensures) run
