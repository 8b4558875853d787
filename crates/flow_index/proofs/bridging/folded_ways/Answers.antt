use Rattle.std.proofs.Common.{◌++◌, ℕ, List, ap, ◌∙◌}
use Rattle.flow_index.proofs.Steps.{steps_of, steps_among}
use Rattle.flow_index.proofs.bridging.folded_ways.Goals as goal

pub returns-clause-steps : goal.returns-clause-steps
returns-clause-steps c =
    let flow = c.args.flow.now in
    let ways = c.in_ok-ways.ways.items in
    steps_of flow c.args.pairs.now ways c.extend_from_slice.new.self.items c.in_ok-ways.ensures
    (c.in_ok-extend_from_slice.ensures.items ∙ ap (λ (xs : List (ℕ × ℕ)). ways ++ xs) c.items.ensures)

pub returns-clause-within : goal.returns-clause-within
returns-clause-within c =
    let flow = c.args.flow.now in
    let ways = c.in_ok-ways.ways.items in
    steps_among flow c.args.pairs.now c.extend_from_slice.new.self.items
    (steps_of flow c.args.pairs.now ways c.extend_from_slice.new.self.items c.in_ok-ways.ensures
    (c.in_ok-extend_from_slice.ensures.items ∙ ap (λ (xs : List (ℕ × ℕ)). ways ++ xs) c.items.ensures))
