use Rattle.std.proofs.Common.{Err, ap, ◌∙◌}
use Rattle.std.proofs.lemmas.Result.{err_from_is_err_and}
use Rattle.c_tree.specs.Forms.{basic}
use Rattle.c_tree.specs.declared.tree.Declarator.{Declarator}
use Rattle.c_tree.specs.declared.tree.Item.TheVariants.{Define}
use Rattle.c_tree.specs.declared.tree.Specs.{Specs}
use Rattle.first_grammar.specs.Grammar.{BodyAt, FunctionAt, function}
use Rattle.first_grammar.proofs.Fails.{fails, function_body}
use Rattle.first_grammar.proofs.cursor.Cursor.function.Goals as goal

pub returns-in_err-body : goal.returns-in_err-body
returns-in_err-body c =
    let err = err_from_is_err_and c.from_residual-in_err-body.result c.from_residual-in_err-body.ensures.1 in
    fails BodyAt FunctionAt c.head.new.self c.body.new.self c.args.self.now c.body.new.self
    c.in_err-body.field-0.0 c.from_residual-in_err-body.result (err.1 ∙ ap (λ e. Err e) err.2)
    c.in_err-body.ensures
    (function_body c.in_ok-head.head c.args.self.now c.head.new.self c.in_ok-head.ensures)

pub returns : goal.returns
unfolding function
returns c = record {
  head = c.in_ok-head.head;
  block = c.in_ok-body.body;
  between = c.head.new.self;
  begins = c.in_ok-head.ensures;
  stands = c.in_ok-body.ensures;
  is =
      ap (λ (v : Specs). Define v c.in_ok-declarator.declarator c.in_ok-body.body) c.in_ok-specs.ensures ∙
      ap (λ (v : Declarator). Define (basic c.in_ok-head.head.int) v c.in_ok-body.body) c.in_ok-declarator.ensures;
}
