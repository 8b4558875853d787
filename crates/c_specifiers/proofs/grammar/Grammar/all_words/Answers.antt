use Rattle.std.proofs.Common.{rules, arith}
use Rattle.reading.specs.Readers.{go_on, many}
use Rattle.c_syntax.specs.Scoping.{terminal_of, input_from}
use Rattle.c_specifiers.specs.DeclarationSets.{begins_word}
use Rattle.c_specifiers.specs.SpecifierReaders.{all_words, more_words}
use Rattle.std.proofs.lemmas.Grind.{common_steps}
use Rattle.reading.proofs.Turns.{one_turn, no_turn}
use Rattle.c_specifiers.proofs.grammar.Grammar.all_words.Goals as goal

pub loop-turn-init : goal.loop-turn-init
unfolding all_words many
loop-turn-init g c = first_of (search rules, grind (arith, common_steps))

pub returns-then-not-is_at_more_specifiers : goal.returns-then-not-is_at_more_specifiers
unfolding go_on
returns-then-not-is_at_more_specifiers g c =
    let e = one_turn (λ n. go_on terminal_of (begins_word c.args.place) (more_words c.args.self.now.room (g.N.Inside.readers c.args.self.now.inside c.args.self.now.room) c.args.place) n c.loop-turn.specified (input_from c.loop-turn.source)) _ c.loop-turn._turn c.loop-turn-test.true c.loop-turn.invariant in
    first_of (search rules, grind (arith, common_steps))

pub returns-in_err-specified : goal.returns-in_err-specified
unfolding go_on
returns-in_err-specified g c =
    let e = one_turn (λ n. go_on terminal_of (begins_word c.args.place) (more_words c.args.self.now.room (g.N.Inside.readers c.args.self.now.inside c.args.self.now.room) c.args.place) n c.loop-turn.specified (input_from c.loop-turn.source)) _ c.loop-turn._turn c.loop-turn-test.true c.loop-turn.invariant in
    first_of (search rules, grind (arith, common_steps))

pub loop-turn-preserved : goal.loop-turn-preserved
unfolding go_on
loop-turn-preserved g c =
    let e = one_turn (λ n. go_on terminal_of (begins_word c.args.place) (more_words c.args.self.now.room (g.N.Inside.readers c.args.self.now.inside c.args.self.now.room) c.args.place) n c.loop-turn.specified (input_from c.loop-turn.source)) _ c.loop-turn._turn c.loop-turn-test.true c.loop-turn.invariant in
    first_of (search rules, grind (arith, common_steps))

pub returns : goal.returns
unfolding go_on
returns g c =
    let e = no_turn (λ n. go_on terminal_of (begins_word c.args.place) (more_words c.args.self.now.room (g.N.Inside.readers c.args.self.now.inside c.args.self.now.room) c.args.place) n c.loop-turn.specified (input_from c.loop-turn.source)) _ c.loop-turn._turn c.loop-turn-test.false c.loop-turn.invariant in
    first_of (search rules, grind (arith, common_steps))
