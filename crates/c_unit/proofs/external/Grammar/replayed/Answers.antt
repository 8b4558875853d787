use Rattle.std.proofs.Common.{rules, arith}
use Rattle.std.proofs.lemmas.Grind.{common_steps}
use Rattle.c_syntax.specs.Scoping.{input_from}
use Rattle.c_unit.proofs.Replaying.{replay_stops, replay_goes_on, replay_ends}
use Rattle.c_unit.proofs.external.Grammar.replayed.Goals as goal

pub returns-in_err-_item : goal.returns-in_err-_item
returns-in_err-_item g c =
    let i = c.loop-definition in
    let k = replay_stops (g.B.Below.readers c.args.self.now.below) (g.B.Heads.heads c.args.self.now.below) c.args.self.now.room c.args.definitions.now i.definition-index (input_from i.source) i.invariant
    _ c.picked.result (input_from c.picked.new.source) _ c.loop-definition-test.true c.picked.ensures c.in_err-_item.was in
    first_of (search (rules, k), grind (arith, common_steps, k))

pub loop-definition-preserved : goal.loop-definition-preserved
loop-definition-preserved g c =
    let i = c.loop-definition in
    replay_goes_on (g.B.Below.readers c.args.self.now.below) (g.B.Heads.heads c.args.self.now.below) c.args.self.now.room c.args.definitions.now i.definition-index (input_from i.source) i.invariant
    _ c.picked.result (input_from c.picked.new.source) _ c.loop-definition-test.true c.picked.ensures c.in_ok-_item.was

pub returns : goal.returns
returns g c =
    let i = c.loop-definition in
    replay_ends (g.B.Below.readers c.args.self.now.below) (g.B.Heads.heads c.args.self.now.below) c.args.self.now.room c.args.definitions.now i.definition-index (input_from i.source) i.invariant
    c.loop-definition-test.false
