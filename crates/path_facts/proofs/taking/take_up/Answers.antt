use Rattle.std.proofs.Common.{ℕ, List, ap, ◌∙◌, sym, map, arith}
use Rattle.path_facts.proofs.Tabulating.{read_below, followed_inside, followed_is, followed_grows, goals_then}
use Rattle.path_facts.proofs.taking.take_up.Goals as goal

pub follow-requires-clause-ways : goal.follow-requires-clause-ways
follow-requires-clause-ways c = rw (c.items.ensures, c.requires.tabulates.facts_count) c.args.flow.now.within.flat

pub follow-requires-clause-vertex : goal.follow-requires-clause-vertex
follow-requires-clause-vertex c =
    let below = read_below c.args.facts.now c.args.position c.index.result.now c.requires.tabulates.facts_kept c.requires.position c.index.ensures in
    let count = c.requires.tabulates.facts_count in
    let flat = c.requires.ground.count in
    omega arith

pub follow-requires-clause-keys : goal.follow-requires-clause-keys
follow-requires-clause-keys c = c.requires.ground.keys ∙ ap (λ (xs : List (ℕ × ℕ)). map (λ way. way.0) xs) (sym c.items.ensures)

pub follow-requires-2-clause-kept : goal.follow-requires-2-clause-kept
follow-requires-2-clause-kept c = c.in_ok-follow.ensures.grows.kept

pub follow-requires-2-clause-ways : goal.follow-requires-2-clause-ways
follow-requires-2-clause-ways c = rw (c.as_slice.ensures.value, c.in_ok-follow.ensures.grows.count, c.requires.tabulates.facts_count) c.requires.tabulates.among

pub follow-requires-2-clause-keys : goal.follow-requires-2-clause-keys
follow-requires-2-clause-keys c = c.requires.tabulates.bridges_kept.keys ∙ ap (λ (xs : List (ℕ × ℕ)). map (λ way. way.0) xs) (sym c.as_slice.ensures.value)

pub follow-requires-2-clause-vertex : goal.follow-requires-2-clause-vertex
follow-requires-2-clause-vertex c =
    let below = read_below c.args.facts.now c.args.position c.index.result.now c.requires.tabulates.facts_kept c.requires.position c.index.ensures in
    let count = c.requires.tabulates.facts_count in
    let bridges = c.requires.tabulates.bridges_count in
    omega arith

pub cross-requires-clause-index : goal.cross-requires-clause-index
cross-requires-clause-index c = c.requires.ground.crossings

pub cross-requires-clause-position : goal.cross-requires-clause-position
cross-requires-clause-position c = followed_inside c.args.flow.now c.args.facts.now c.follow.new.facts c.follow-2.new.facts c.args.bridges.now c.args.position c.index.result.now c.items.result.now c.as_slice.result.now c.requires.tabulates c.requires.position c.index.ensures c.items.ensures c.as_slice.ensures.value c.in_ok-follow.ensures.grows c.in_ok-follow.ensures.all c.in_ok-follow-2.ensures.grows c.in_ok-follow-2.ensures.all

pub cross-requires-clause-tabulates : goal.cross-requires-clause-tabulates
cross-requires-clause-tabulates c = followed_is c.args.flow.now c.args.facts.now c.follow.new.facts c.follow-2.new.facts c.args.bridges.now c.args.position c.index.result.now c.items.result.now c.as_slice.result.now c.requires.tabulates c.requires.position c.index.ensures c.items.ensures c.as_slice.ensures.value c.in_ok-follow.ensures.grows c.in_ok-follow.ensures.all c.in_ok-follow-2.ensures.grows c.in_ok-follow-2.ensures.all

pub returns-clause-grows : goal.returns-clause-grows
returns-clause-grows c =
    goals_then c.args.flow.now c.args.facts.now c.follow-2.new.facts c.cross.new.facts
    (followed_grows c.args.flow.now c.args.facts.now c.follow.new.facts c.follow-2.new.facts c.args.bridges.now c.args.position c.index.result.now c.items.result.now c.as_slice.result.now c.requires.tabulates c.requires.position c.index.ensures c.items.ensures c.as_slice.ensures.value c.in_ok-follow.ensures.grows c.in_ok-follow.ensures.all c.in_ok-follow-2.ensures.grows c.in_ok-follow-2.ensures.all) c.in_ok-cross.ensures.grows
