use Rattle.std.proofs.Common.{arith}
use Rattle.line_marks.specs.Kept as kept
use Rattle.line_marks.proofs.Groups.{kind_within}
use Rattle.line_marks.proofs.stripping.treatment_at.Goals as goal

pub overflow_add-result : goal.overflow_add-result
overflow_add-result c = let h = kind_within c.args.tokens.now c.args.at c.args.kind c.requires.token in omega arith

pub overflow_add-at : goal.overflow_add-at
overflow_add-at c = let h = kind_within c.args.tokens.now c.args.at c.args.kind c.requires.token in omega arith

pub overflow_add-at-in-Key-eq59 : goal.overflow_add-at-in-Key-eq59
overflow_add-at-in-Key-eq59 c = let h = kind_within c.args.tokens.now c.args.at c.args.kind c.requires.token in omega arith

pub returns-then-is_absent : goal.returns-then-is_absent
returns-then-is_absent c =
    let h = kind_within c.args.tokens.now c.args.at c.args.kind c.requires.token in
    (omega arith, omega arith, kept.IsDropped.absent c.args.kind c.requires.token (c.is_absent.ensures.0 c.if-is_absent.true))

pub returns-in-Some : goal.returns-in-Some
returns-in-Some c =
    let h = c.in-Some.ensures in
    (omega (arith, h.within.0), h.within.1, kept.IsDropped.attribute (cc (c.requires.token, c.in-Key-eq57.is, c.in-Key-eq57.field-0-is)) h.parens)

pub returns-in-Some-parens_end : goal.returns-in-Some-parens_end
returns-in-Some-parens_end c =
    let h = c.in-Some-parens_end.ensures in
    (omega (arith, h.within.0), h.within.1, kept.IsDropped.symbol (cc (c.requires.token, c.in-Key-eq59.is, c.in-Key-eq59.field-0-is)) (c.may_end_declarator.ensures.0 c.if-may_end_declarator.true) h.parens)
