use Rattle.std.proofs.Common.{◌≡◌, ◌<◌, ap, ◌∙◌, length, get_or, arith, None, Some}
use Rattle.std.proofs.lemmas.List.{get_or_default}
use Rattle.flow_index.specs.Positions.{Keys}
use Rattle.flow_index.proofs.Chaining.{chained_more}
use Rattle.flow_index.proofs.chains.Chains.push.Goals as goal

pub invariant_of-self-2 : goal.invariant_of-self-2
invariant_of-self-2 c =
    let last = c.self.inside.last.items in
    let below : c.args.key < length last = rw (ap (λ (k : Keys). k.count) c.self.view_is) c.requires in
    let position : c.len.result ≡ length c.self.inside.keys.items = omega (arith, c.len.ensures, c.self.inside.keys.ok) in
    let link : c.in-Some.link ≡ Some (length c.self.inside.keys.items) = c.in-Some.ensures ∙ ap Some position in
    let before : c.index-before.result.now ≡ get_or last c.args.key None = c.index-before.ensures ∙ get_or_default last c.args.key c.index-before.result.now None below in
    rw (link, c.in_default-push.ensures.items, c.in_ok-push.ensures.items, before)
    (chained_more last c.self.inside.keys.items c.self.inside.before.items c.args.key below c.self.invariant)
