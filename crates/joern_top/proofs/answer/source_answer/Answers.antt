use Rattle.std.proofs.Common.{subst, arith}
use Rattle.joern_top.specs.declared.source.SourceStop.{SourceStop}
use Rattle.joern_top.specs.Reading.{IsStopOf}
use Rattle.joern_top.proofs.Refusing.{decided_read, decided_refusal}
use Rattle.joern_top.proofs.answer.source_answer.Goals as goal

pub returns-in-Ok-clause-decided : goal.returns-in-Ok-clause-decided
returns-in-Ok-clause-decided c = λ decided.
    decided_read _ _ _ _ (omega (arith, c.requires.within, c.args.bytes.ok.0)) c.in-Ok.ensures.ok (c.graph_answer.ensures.decided decided)

pub returns-in-Err-Refused-clause-decided : goal.returns-in-Err-Refused-clause-decided
returns-in-Err-Refused-clause-decided c = λ decided.
    let P : SourceStop → Type 0 = λ stop. IsStopOf c.args.bytes.items stop in
    let refused = subst P c.in-Err-Refused.field-0-is c.in-Err-Refused.ensures.refused in
    rw c.in-Err-Refused.field-0-is (decided_refusal c.args.name.now c.args.bytes.items c.in-Err-Refused.refusal (omega (arith, c.requires.within, c.args.bytes.ok.0)) refused)
