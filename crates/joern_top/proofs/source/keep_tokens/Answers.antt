use Rattle.std.proofs.Common.{rules}
use Rattle.std.proofs.lemmas.Option.{slice_get-get_or}
use Rattle.joern_top.specs.Refusals.IsRefusedAt.{attribute}
use Rattle.joern_top.proofs.Fate.{bad_within}
use Rattle.joern_top.proofs.source.keep_tokens.Goals as goal

pub bounds-tokens-token : goal.bounds-tokens-token
bounds-tokens-token c =
    let stop = c.in-Err-BadAttribute.ensures.bad_attribute c.in-Err-BadAttribute.token (search rules) in
    bad_within c.args.tokens.now c.in-Err-BadAttribute.token stop

pub refuse-requires-clause-refused : goal.refuse-requires-clause-refused
refuse-requires-clause-refused c =
    let stop = c.in-Err-BadAttribute.ensures.bad_attribute c.in-Err-BadAttribute.token (search rules) in
    let inside = bad_within c.args.tokens.now c.in-Err-BadAttribute.token stop in
    attribute c.args.tokens.now c.in-Err-BadAttribute.token _ c.requires.tokens stop (slice_get-get_or _ _ _ inside)
