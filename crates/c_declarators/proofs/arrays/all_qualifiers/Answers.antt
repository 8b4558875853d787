use Rattle.std.proofs.Common.{rules, arith}
use Rattle.reading.specs.Readers.{go_on, many}
use Rattle.c_syntax.specs.Scoping.{terminal_of, input_from}
use Rattle.c_specifiers.specs.DeclarationSets.{a_qualifier}
use Rattle.c_declarators.specs.DeclaratorReaders.{all_qualifiers, qualifier}
use Rattle.std.proofs.lemmas.Grind.{common_steps}
use Rattle.reading.proofs.Turns.{one_turn, no_turn}
use Rattle.c_declarators.proofs.arrays.all_qualifiers.Goals as goal

pub loop-turn-init : goal.loop-turn-init
unfolding all_qualifiers many
loop-turn-init c = first_of (search rules, grind (arith, common_steps))

pub returns-then-not-is_at_qualifier : goal.returns-then-not-is_at_qualifier
unfolding go_on
returns-then-not-is_at_qualifier c =
    let e = one_turn (λ n. go_on terminal_of a_qualifier (qualifier c.args.room) n c.loop-turn.qualified (input_from c.loop-turn.source)) _ c.loop-turn._turn c.loop-turn-test.true c.loop-turn.invariant in
    first_of (search rules, grind (arith, common_steps))

pub returns-in_err-qualified : goal.returns-in_err-qualified
unfolding go_on
returns-in_err-qualified c =
    let e = one_turn (λ n. go_on terminal_of a_qualifier (qualifier c.args.room) n c.loop-turn.qualified (input_from c.loop-turn.source)) _ c.loop-turn._turn c.loop-turn-test.true c.loop-turn.invariant in
    first_of (search rules, grind (arith, common_steps))

pub loop-turn-preserved : goal.loop-turn-preserved
unfolding go_on
loop-turn-preserved c =
    let e = one_turn (λ n. go_on terminal_of a_qualifier (qualifier c.args.room) n c.loop-turn.qualified (input_from c.loop-turn.source)) _ c.loop-turn._turn c.loop-turn-test.true c.loop-turn.invariant in
    first_of (search rules, grind (arith, common_steps))

pub returns : goal.returns
unfolding go_on
returns c =
    let e = no_turn (λ n. go_on terminal_of a_qualifier (qualifier c.args.room) n c.loop-turn.qualified (input_from c.loop-turn.source)) _ c.loop-turn._turn c.loop-turn-test.false c.loop-turn.invariant in
    first_of (search rules, grind (arith, common_steps))
