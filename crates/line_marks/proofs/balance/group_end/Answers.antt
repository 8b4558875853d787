use Rattle.std.proofs.Common.{ℕ}
use Rattle.line_marks.specs.Balance.{Closes, IsGroup}
use Rattle.line_marks.proofs.Groups.{group_closed, no_group_at}
use Rattle.line_marks.proofs.balance.group_end.Goals as goal

pub returns-in_err-closing-clause-group : goal.returns-in_err-closing-clause-group
returns-in_err-closing-clause-group c =
    let tokens = c.args.tokens.now in
    let alone : (to : ℕ) → IsGroup tokens c.args.at to → ⊥ = λ to g.
    c.in_err-closing.ensures.number g.closing (group_closed tokens c.args.at c.args.end to c.requires.inside g) in
    rw c.from_residual-in_err-closing.ensures alone

pub returns-else-closes-clause-group : goal.returns-else-closes-clause-group
returns-else-closes-clause-group c =
    let apart = λ (pair : Closes c.in_ok-opening.opening c.in_ok-closing.closing).
    absurd (cc (c.closes.ensures.1 pair, c.if-closes.false)) in
    no_group_at c.args.tokens.now c.args.at c.args.end _ _ c.requires.inside c.in_ok-opening.ensures.number c.in_ok-closing.ensures.number apart
