use Rattle.std.proofs.Common.{refl, inl, inr}
use Rattle.c_lexer.proofs.Directives.{no_directive}
use Rattle.c_lexer.proofs.directive.directive_at.Goals as goal

pub returns-in-Some : goal.returns-in-Some
returns-in-Some c = record { is = inr refl; within = c.in-Some.ensures.0; spelled = c.in-Some.ensures.1 }

pub returns-in_err-end : goal.returns-in_err-end
returns-in_err-end c = rw c.from_residual.ensures (no_directive c.args.text.bytes.now c.args.at c.in_default.ensures c.in_err-end.ensures)

pub returns : goal.returns
returns c =
    let m = c.in_ok-end.ensures in
    record { is = inl refl; within = m.within; spelled = (_, _, m.marker) }
