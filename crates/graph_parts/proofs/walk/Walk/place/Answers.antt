use Rattle.std.proofs.Common.{refl, sym, ◌∙◌, arith}
use Rattle.std.proofs.lemmas.List.{get_or_default}
use Rattle.graph_parts.proofs.Walks.{comes_walk}
use Rattle.graph_parts.proofs.walk.Walk.place.Goals as goal

pub returns-in_ok-push-clause-walk : goal.returns-in_ok-push-clause-walk
returns-in_ok-push-clause-walk c =
    let roots = c.args.self.now.roots.items in
    let inside = c.requires.inside in
    let same = c.requires.same in
    λ graph w place.
    comes_walk c.args.self.now _ c.args.node c.args.method c.args.root
    (record {
      methods = refl;
      roots = refl;
      order = c.in_ok-push.ensures.items;
      unknown = get_or_default roots c.args.node 0 c.index.result.now inside ∙ (sym c.index.ensures ∙ c.if-index.true);
      real = c.requires.real;
      inside = inside;
      inside_methods = omega arith;
    })
    graph w place
