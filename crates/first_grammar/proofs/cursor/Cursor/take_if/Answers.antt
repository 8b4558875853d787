use Rattle.std.proofs.Common.{arith, subst, sym, ◌∙◌}
use Rattle.first_grammar.specs.Rest.{IsAt}
use Rattle.line_marks.specs.Kept.{items_at}
use Rattle.line_marks.proofs.ItemsAt.{length-items_at}
use Rattle.first_grammar.proofs.Places.{next_is}
use Rattle.first_grammar.proofs.cursor.Cursor.take_if.Goals as goal

pub invariant_of-self : goal.invariant_of-self
invariant_of-self c =
    let at = c.is_at.ensures.0 c.if-is_at.true in
    let next = next_is c.args.kind (items_at c.self.inside.tokens.now c.self.inside.kept.now) c.self.inside.at
    (subst (IsAt c.args.kind) (sym c.self.view_is) at) in
    let many = length-items_at c.self.inside.tokens.now c.self.inside.kept.now c.self.invariant.2 in
    (omega (arith, many, next.0), c.self.invariant.1, c.self.invariant.2)

pub returns-then-is_at : goal.returns-then-is_at
returns-then-is_at c =
    let at = c.is_at.ensures.0 c.if-is_at.true in
    let next = next_is c.args.kind (items_at c.self.inside.tokens.now c.self.inside.kept.now) c.self.inside.at
    (subst (IsAt c.args.kind) (sym c.self.view_is) at) in
    sym c.self.view_is ∙ next.1
