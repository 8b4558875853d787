use Rattle.std.proofs.Common.{rules, arith}
use Rattle.reading.specs.Readers.{turn_on, repeat}
use Rattle.c_syntax.specs.Scoping.{input_from}
use Rattle.c_stmt.specs.StatementReaders.{all_arms, arm_turn}
use Rattle.std.proofs.lemmas.Grind.{common_steps}
use Rattle.reading.proofs.Turns.{one_turn, no_turn}
use Rattle.c_reading.proofs.Places.{number_ahead_is}
use Rattle.c_stmt.proofs.grammar.Grammar.all_arms.Goals as goal

pub loop-turn-init : goal.loop-turn-init
unfolding all_arms repeat
loop-turn-init g c = first_of (search rules, grind (arith, common_steps))

pub returns-in_err-more : goal.returns-in_err-more
unfolding turn_on
returns-in_err-more g c =
    let e = one_turn (λ n. turn_on (arm_turn (g.B.Below.readers c.args.self.now.below) c.args.self.now.room (g.I.Inside.readers c.args.self.now.inside c.args.self.now.room)) n c.loop-turn.arms (input_from c.loop-turn.source)) _ c.loop-turn._turn c.loop-turn-test.true c.loop-turn.invariant in
    first_of (search rules, grind (arith, common_steps))

pub returns-in-Done : goal.returns-in-Done
unfolding turn_on
returns-in-Done g c =
    let e = one_turn (λ n. turn_on (arm_turn (g.B.Below.readers c.args.self.now.below) c.args.self.now.room (g.I.Inside.readers c.args.self.now.inside c.args.self.now.room)) n c.loop-turn.arms (input_from c.loop-turn.source)) _ c.loop-turn._turn c.loop-turn-test.true c.loop-turn.invariant in
    first_of (search rules, grind (arith, common_steps))

pub loop-turn-preserved : goal.loop-turn-preserved
unfolding turn_on
loop-turn-preserved g c =
    let e = one_turn (λ n. turn_on (arm_turn (g.B.Below.readers c.args.self.now.below) c.args.self.now.room (g.I.Inside.readers c.args.self.now.inside c.args.self.now.room)) n c.loop-turn.arms (input_from c.loop-turn.source)) _ c.loop-turn._turn c.loop-turn-test.true c.loop-turn.invariant in
    first_of (search rules, grind (arith, common_steps))

pub returns : goal.returns
unfolding turn_on
returns g c =
    let e = no_turn (λ n. turn_on (arm_turn (g.B.Below.readers c.args.self.now.below) c.args.self.now.room (g.I.Inside.readers c.args.self.now.inside c.args.self.now.room)) n c.loop-turn.arms (input_from c.loop-turn.source)) _ c.loop-turn._turn c.loop-turn-test.false c.loop-turn.invariant in
    rw c.refusal.ensures (input_from c.loop-turn.source, e, number_ahead_is c.loop-turn.source.cursor c.loop-turn.source.scopes)
