use Rattle.std.proofs.Common.{refl, arith}
use Rattle.c_lexer.specs.Numbers.{IsNumberByte}
use Rattle.c_lexer.proofs.Parts.{run_more}
use Rattle.c_lexer.proofs.number.number_end.Goals as goal

pub loop-end-preserved : goal.loop-end-preserved
loop-end-preserved c =
    let i = c.loop-end.invariant in
    record {
      some = omega arith;
      high = omega arith;
      each = run_more (IsNumberByte c.args.text.bytes.now c.args.from) c.args.from c.loop-end.end i.each (c.if-is_number_byte.ensures.0 refl);
    }
