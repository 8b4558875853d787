use Rattle.std.proofs.Common.{rules, arith}
use Rattle.reading.specs.Readers.{go_on, many}
use Rattle.c_syntax.specs.Scoping.{terminal_of, input_from}
use Rattle.c_specifiers.specs.DeclarationSets.{begins_suffix}
use Rattle.c_declarators.specs.DeclaratorReaders.{all_suffixes, more_suffixes}
use Rattle.std.proofs.lemmas.Grind.{common_steps}
use Rattle.reading.proofs.Turns.{one_turn, no_turn}
use Rattle.c_declarators.proofs.cores.all_suffixes.Goals as goal

pub loop-turn-init : goal.loop-turn-init
unfolding all_suffixes many
loop-turn-init g c = first_of (search rules, grind (arith, common_steps))

pub returns-then-not-is_at_suffix : goal.returns-then-not-is_at_suffix
unfolding go_on
returns-then-not-is_at_suffix g c =
    let e = one_turn (λ n. go_on terminal_of begins_suffix (more_suffixes c.args.grammar.now.room (g.N.Inside.readers c.args.grammar.now.inside c.args.grammar.now.room) c.args.named) n c.loop-turn.suffixes (input_from c.loop-turn.source)) _ c.loop-turn._turn c.loop-turn-test.true c.loop-turn.invariant in
    first_of (search rules, grind (arith, common_steps))

pub returns-in_err-suffixes : goal.returns-in_err-suffixes
unfolding go_on
returns-in_err-suffixes g c =
    let e = one_turn (λ n. go_on terminal_of begins_suffix (more_suffixes c.args.grammar.now.room (g.N.Inside.readers c.args.grammar.now.inside c.args.grammar.now.room) c.args.named) n c.loop-turn.suffixes (input_from c.loop-turn.source)) _ c.loop-turn._turn c.loop-turn-test.true c.loop-turn.invariant in
    first_of (search rules, grind (arith, common_steps))

pub loop-turn-preserved : goal.loop-turn-preserved
unfolding go_on
loop-turn-preserved g c =
    let e = one_turn (λ n. go_on terminal_of begins_suffix (more_suffixes c.args.grammar.now.room (g.N.Inside.readers c.args.grammar.now.inside c.args.grammar.now.room) c.args.named) n c.loop-turn.suffixes (input_from c.loop-turn.source)) _ c.loop-turn._turn c.loop-turn-test.true c.loop-turn.invariant in
    first_of (search rules, grind (arith, common_steps))

pub returns : goal.returns
unfolding go_on
returns g c =
    let e = no_turn (λ n. go_on terminal_of begins_suffix (more_suffixes c.args.grammar.now.room (g.N.Inside.readers c.args.grammar.now.inside c.args.grammar.now.room) c.args.named) n c.loop-turn.suffixes (input_from c.loop-turn.source)) _ c.loop-turn._turn c.loop-turn-test.false c.loop-turn.invariant in
    first_of (search rules, grind (arith, common_steps))
