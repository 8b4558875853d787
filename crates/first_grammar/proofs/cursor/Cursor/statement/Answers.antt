use Rattle.std.proofs.Common.{Err, ap, ◌∙◌, subst}
use Rattle.std.proofs.lemmas.Result.{err_from_is_err_and}
use Rattle.c_lexer.specs.declared.token.Kind.TheVariants.{Mark}
use Rattle.c_lexer.specs.declared.mark.TheConstants.{MARK_SEMICOLON}
use Rattle.c_tree.specs.Forms.{assigned, expression_stmt, sole}
use Rattle.c_tree.specs.declared.tree.Cond.{Cond}
use Rattle.c_tree.specs.declared.tree.Expr.{Expr}
use Rattle.c_tree.specs.declared.tree.Stmt.{Stmt}
use Rattle.c_tree.specs.declared.tree.BlockItem.TheVariants.{Do}
use Rattle.first_grammar.specs.Rest.{Rest, TokenAt}
use Rattle.first_grammar.specs.Grammar.{AddendsAt, BegunAt, StatementAt, statement}
use Rattle.first_grammar.proofs.Fails.{fails, statement_addends, statement_begun, statement_mark}
use Rattle.first_grammar.proofs.cursor.Cursor.statement.Goals as goal

pub returns-in_err-targets : goal.returns-in_err-targets
returns-in_err-targets c =
    let err = err_from_is_err_and c.from_residual.result c.from_residual.ensures.1 in
    fails BegunAt StatementAt c.args.self.now c.begin.new.self c.args.self.now c.begin.new.self
    c.in_err-targets.field-0.0 c.from_residual.result (err.1 ∙ ap (λ e. Err e) err.2) c.in_err-targets.ensures
    (λ x end h. statement_begun x c.args.self.now end h)

pub returns-in_err-rest : goal.returns-in_err-rest
returns-in_err-rest c =
    let result = c.from_residual-in_err-rest.result in
    let err = err_from_is_err_and result c.from_residual-in_err-rest.ensures.1 in
    fails AddendsAt StatementAt c.begin.new.self c.addends.new.self c.args.self.now c.addends.new.self
    c.in_err-rest.field-0.0 result (err.1 ∙ ap (λ e. Err e) err.2) c.in_err-rest.ensures
    (statement_addends (c.in_ok-targets.targets, c.in_ok-targets.first) c.args.self.now c.begin.new.self
    c.in_ok-targets.ensures)

pub returns-in_err-semicolon : goal.returns-in_err-semicolon
returns-in_err-semicolon c =
    let result = c.from_residual-in_err-semicolon.result in
    let err = err_from_is_err_and result c.from_residual-in_err-semicolon.ensures.1 in
    fails (TokenAt (Mark MARK_SEMICOLON)) StatementAt c.addends.new.self c.expect.new.self c.args.self.now
    c.expect.new.self c.in_err-semicolon.field-0.0 result (err.1 ∙ ap (λ e. Err e) err.2)
    c.in_err-semicolon.ensures
    (statement_mark (c.in_ok-targets.targets, c.in_ok-targets.first) c.in_ok-rest.rest c.args.self.now
    c.begin.new.self c.addends.new.self c.in_ok-targets.ensures c.in_ok-rest.ensures)

pub returns : goal.returns
unfolding statement
returns c =
    let targets = c.in_ok-targets.targets in
    let semicolon = c.in_ok-semicolon.semicolon in
    record {
      targets = targets;
      first = c.in_ok-targets.first;
      rest = c.in_ok-rest.rest;
      semicolon = semicolon;
      between = c.begin.new.self;
      begun = c.in_ok-targets.ensures;
      addends = subst (λ (r : Rest). AddendsAt c.in_ok-rest.rest c.begin.new.self r) c.in_ok-semicolon.ensures
          c.in_ok-rest.ensures;
      is =
          ap (λ (v : Stmt). Do v) c.in_ok-stmt.ensures ∙
          (ap (λ (v : Expr). Do (expression_stmt v semicolon)) c.in_ok-expr.ensures ∙
          ap (λ (v : Cond). Do (expression_stmt (sole (assigned targets v)) semicolon)) c.unconditional-value.ensures);
    }
