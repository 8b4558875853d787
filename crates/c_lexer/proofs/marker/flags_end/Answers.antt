use Rattle.std.proofs.Common.{slice_index, ◌≤◌, arith}
use Rattle.c_lexer.specs.Directives.{none}
use Rattle.c_lexer.proofs.Directives.{flags_more}
use Rattle.c_lexer.proofs.marker.flags_end.Goals as goal

pub loop-digit-init : goal.loop-digit-init
loop-digit-init c = record { low = omega arith; high = omega arith; flags = none }

pub loop-digit-preserved : goal.loop-digit-preserved
loop-digit-preserved c =
    let low : 49 ≤ slice_index c.args.bytes.now c.in-Some.digit = grind arith in
    let high : slice_index c.args.bytes.now c.in-Some.digit ≤ 52 = grind arith in
    let within = c.in-Some.ensures.within in
    let gap = c.in-Some.ensures.gap in
    let some = gap.some in
    record {
      low = omega arith;
      high = omega arith;
      flags = flags_more c.args.bytes.now c.loop-digit.invariant.flags gap low high;
    }
