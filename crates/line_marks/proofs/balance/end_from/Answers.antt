use Rattle.std.proofs.Common.{◌+◌, slice_index, sym, arith}
use Rattle.line_marks.specs.Balance.{IsBracket}
use Rattle.line_marks.specs.Stripping.{IsBalancedTo}
use Rattle.line_marks.proofs.Groups.{balanced_group, balanced_none, balanced_plain, kind_here}
use Rattle.line_marks.proofs.balance.end_from.Goals as goal

pub returns-in-Some-group_end : goal.returns-in-Some-group_end
returns-in-Some-group_end c =
    let tokens = c.args.tokens.now in
    let inner : IsBalancedTo tokens (c.args.at + 1) (slice_index c.args.ends.now (c.args.at + 1)) = c.requires.later (c.args.at + 1) (omega arith) (omega arith) in
    let low = inner.low in
    let past = c.in-Some-group_end.ensures.within in
    balanced_group tokens c.args.at _ c.in-Some-group_end.past _ inner past.0 c.in-Some-group_end.ensures.group
    (c.requires.later c.in-Some-group_end.past (omega (arith, past.0)) past.1)

pub returns-in-None : goal.returns-in-None
returns-in-None c =
    balanced_none c.args.tokens.now c.args.at c.in-Some.kind (sym c.in-Some.ensures.kind) (c.is_bracket.ensures.0 c.if-is_bracket.true) c.in-None.ensures.group

pub returns-in_default : goal.returns-in_default
returns-in_default c =
    let inner = c.requires.later (c.args.at + 1) (omega arith) (omega arith) in
    let bare : IsBracket c.in-Some.kind → ⊥ = λ b. let yes = c.is_bracket.ensures.1 b in absurd (cc (yes, c.if-is_bracket.false)) in
    balanced_plain c.args.tokens.now c.args.at _ c.in-Some.kind (sym c.in-Some.ensures.kind) bare inner

pub returns-in_default-2 : goal.returns-in_default-2
returns-in_default-2 c =
    let h = kind_here c.args.tokens.now c.args.at c.requires.inside in
    absurd (cc (c.in_default.ensures.kind, h.1))
