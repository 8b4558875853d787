use Rattle.std.proofs.Common.{rules, arith}
use Rattle.reading.specs.Readers.{go_on, many}
use Rattle.c_syntax.specs.Scoping.{terminal_of, input_from}
use Rattle.c_specifiers.specs.DeclarationSets.{begins_designator}
use Rattle.c_declarations.specs.InitialiserReaders.{all_designators, more_designators}
use Rattle.std.proofs.lemmas.Grind.{common_steps}
use Rattle.reading.proofs.Turns.{one_turn, no_turn}
use Rattle.c_declarations.proofs.initialisers.all_designators.Goals as goal

pub loop-turn-init : goal.loop-turn-init
unfolding all_designators many
loop-turn-init g c = first_of (search rules, grind (arith, common_steps))

pub returns-then-not-is_at_designator : goal.returns-then-not-is_at_designator
unfolding go_on
returns-then-not-is_at_designator g c =
    let e = one_turn (λ n. go_on terminal_of begins_designator (more_designators c.args.grammar.now.room (g.N.Inside.readers c.args.grammar.now.inside c.args.grammar.now.room)) n c.loop-turn.designators (input_from c.loop-turn.source)) _ c.loop-turn._turn c.loop-turn-test.true c.loop-turn.invariant in
    first_of (search rules, grind (arith, common_steps))

pub returns-in_err-designators : goal.returns-in_err-designators
unfolding go_on
returns-in_err-designators g c =
    let e = one_turn (λ n. go_on terminal_of begins_designator (more_designators c.args.grammar.now.room (g.N.Inside.readers c.args.grammar.now.inside c.args.grammar.now.room)) n c.loop-turn.designators (input_from c.loop-turn.source)) _ c.loop-turn._turn c.loop-turn-test.true c.loop-turn.invariant in
    first_of (search rules, grind (arith, common_steps))

pub loop-turn-preserved : goal.loop-turn-preserved
unfolding go_on
loop-turn-preserved g c =
    let e = one_turn (λ n. go_on terminal_of begins_designator (more_designators c.args.grammar.now.room (g.N.Inside.readers c.args.grammar.now.inside c.args.grammar.now.room)) n c.loop-turn.designators (input_from c.loop-turn.source)) _ c.loop-turn._turn c.loop-turn-test.true c.loop-turn.invariant in
    first_of (search rules, grind (arith, common_steps))

pub returns : goal.returns
unfolding go_on
returns g c =
    let e = no_turn (λ n. go_on terminal_of begins_designator (more_designators c.args.grammar.now.room (g.N.Inside.readers c.args.grammar.now.inside c.args.grammar.now.room)) n c.loop-turn.designators (input_from c.loop-turn.source)) _ c.loop-turn._turn c.loop-turn-test.false c.loop-turn.invariant in
    first_of (search rules, grind (arith, common_steps))
