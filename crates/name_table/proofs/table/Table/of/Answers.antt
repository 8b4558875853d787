-- The loop ends with the texts.

use Rattle.std.proofs.Common.{◌≡◌, arith, length}
use Rattle.name_table.proofs.table.Table.of.Goals as goal

pub returns : goal.returns
returns c =
    let past = c.loop-number-test.false in
    let within = c.loop-number.auto.number-end in
    let count = c.len-number-end.ensures in
    let all : c.loop-number.number ≡ length c.args.texts.now = omega arith in
    rw (← all) c.loop-number.invariant
