use Rattle.std.proofs.Common.{Err, sym, ap, ◌∙◌, subst}
use Rattle.std.proofs.lemmas.Result.{err_from_is_err_and}
use Rattle.first_grammar.specs.Grammar.{BegunAt, OperandAt, Runs, TargetAt}
use Rattle.first_grammar.proofs.Fails.{begun_later, begun_operand, fails}
use Rattle.first_grammar.proofs.Runs.{runs_push}
use Rattle.first_grammar.proofs.cursor.Cursor.begin.Goals as goal

pub returns-in_err-operand : goal.returns-in_err-operand
returns-in_err-operand c =
    let err = err_from_is_err_and c.from_residual.result c.from_residual.ensures.1 in
    fails OperandAt BegunAt c.args.self.now c.operand.new.self c.args.self.now c.operand.new.self
    c.in_err-operand.field-0.0 c.from_residual.result (err.1 ∙ ap (λ e. Err e) err.2) c.in_err-operand.ensures
    (λ x end h. begun_operand x c.args.self.now end h)

pub returns-in_err-operand-2 : goal.returns-in_err-operand-2
returns-in_err-operand-2 c =
    let result = c.from_residual-in_err-operand-2.result in
    let err = err_from_is_err_and result c.from_residual-in_err-operand-2.ensures.1 in
    fails OperandAt BegunAt c.take_if.new.self c.operand-in-Some.new.self c.args.self.now
    c.operand-in-Some.new.self c.in_err-operand-2.field-0.0 result (err.1 ∙ ap (λ e. Err e) err.2)
    c.in_err-operand-2.ensures
    (begun_later c.loop-equal.targets c.loop-equal.operand c.in-Some.equal c.args.self.now
    c.loop-equal.invariant.0 c.loop-equal.self c.take_if.new.self c.loop-equal.invariant.1
    c.loop-equal.invariant.2 c.in-Some.ensures)

pub loop-equal-preserved : goal.loop-equal-preserved
loop-equal-preserved c =
    let between = c.loop-equal.invariant.0 in
    let target = subst (OperandAt c.loop-equal.operand between) c.in-Some.ensures c.loop-equal.invariant.2 in
    let run = runs_push TargetAt c.loop-equal.targets (c.loop-equal.operand, c.in-Some.equal) c.args.self.now
    between c.take_if.new.self c.loop-equal.invariant.1 target in (
      c.take_if.new.self,
      subst (λ xs. Runs TargetAt xs c.args.self.now c.take_if.new.self) (sym c.in_ok-add.ensures) run,
      c.in_ok-operand-2.ensures,
    )
