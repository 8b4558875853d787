use Rattle.std.proofs.Common.{arith, rules}
use Rattle.joern_top.specs.Refusals.IsRefusedAt.{unbuilt}
use Rattle.joern_top.proofs.source.read_tree.Goals as goal

pub read_unit-requires-clause-few : goal.read_unit-requires-clause-few
read_unit-requires-clause-few c =
    let is = c.requires.stripped in
    let bytes = c.law_within_the_text.ensures.few _ _ is.lexed in
    let tokens = c.law_kept_positions.ensures.few _ _ is.stripped in
    omega (arith, bytes, tokens, c.args.text.within)

pub refuse-requires-clause-refused : goal.refuse-requires-clause-refused
refuse-requires-clause-refused c = unbuilt _ _ c.requires.stripped (c.in-Err-Unbuilt.ensures.unbuilt (search rules))
