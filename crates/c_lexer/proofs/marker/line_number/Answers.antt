use Rattle.std.proofs.Common.{slice_index, arith, rules}
use Rattle.c_lexer.specs.Bytes.{IsDigit}
use Rattle.c_lexer.proofs.LineNumbers.{value_more, number_too_large}
use Rattle.c_lexer.proofs.Parts.{run_more}
use Rattle.c_lexer.proofs.marker.line_number.Goals as goal

pub returns-then-line-gt-MAX_LINE : goal.returns-then-line-gt-MAX_LINE
returns-then-line-gt-MAX_LINE c found h =
    let i = c.loop-past.invariant in
    let digit : IsDigit (slice_index c.args.bytes.now c.loop-past.past) = search rules in
    number_too_large c.args.bytes.now c.args.from c.loop-past.past c.loop-past.line found.end found.line (omega arith) i.low i.digits digit i.value (omega arith) h.within h.ends h.number

pub loop-past-preserved : goal.loop-past-preserved
loop-past-preserved c =
    let i = c.loop-past.invariant in
    let digit : IsDigit (slice_index c.args.bytes.now c.loop-past.past) = search rules in
    let more = value_more c.args.bytes.now c.args.from c.loop-past.past c.loop-past.line i.low (omega arith) i.value in
    record {
      low = omega arith;
      high = omega arith;
      digits = run_more (λ i. IsDigit (slice_index c.args.bytes.now i)) c.args.from c.loop-past.past i.digits digit;
      value = omega arith;
      small = omega arith;
    }
