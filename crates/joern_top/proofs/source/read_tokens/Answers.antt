use Rattle.std.proofs.Common.{arith, rules}
use Rattle.joern_top.specs.Refusals.IsRefusedAt.{byte, unclosed}
use Rattle.joern_top.proofs.source.read_tokens.Goals as goal

pub refuse-requires-clause-refused : goal.refuse-requires-clause-refused
refuse-requires-clause-refused c =
    let stop = c.in-Err-BadByte.ensures.bad_byte c.in-Err-BadByte.at (search rules) in
    byte c.in-Err-BadByte.at stop.0 stop.1

pub refuse-requires-clause-inside : goal.refuse-requires-clause-inside
refuse-requires-clause-inside c =
    let stop = c.in-Err-BadByte.ensures.bad_byte c.in-Err-BadByte.at (search rules) in
    let before = stop.0.before_end in
    omega arith

pub refuse-requires-in-Err-Unclosed-clause-refused : goal.refuse-requires-in-Err-Unclosed-clause-refused
refuse-requires-in-Err-Unclosed-clause-refused c =
    let stop = c.in-Err-Unclosed.ensures.unclosed c.in-Err-Unclosed.at (search rules) in
    unclosed c.in-Err-Unclosed.at stop.0 stop.1

pub refuse-requires-in-Err-Unclosed-clause-inside : goal.refuse-requires-in-Err-Unclosed-clause-inside
refuse-requires-in-Err-Unclosed-clause-inside c =
    let stop = c.in-Err-Unclosed.ensures.unclosed c.in-Err-Unclosed.at (search rules) in
    let before = stop.0.before_end in
    omega arith
