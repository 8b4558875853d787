use Rattle.std.proofs.Common.{rules, arith, [], ◌∷◌}
use Rattle.c_reading.specs.Terminals.{TEXT, mark}
use Rattle.c_lexer.specs.declared.mark.TheConstants.{MARK_COMMA, MARK_QUESTION, MARK_STAR}
use Rattle.reading.specs.Readers.{go_on, many}
use Rattle.c_syntax.specs.Scoping.{terminal_of, input_from}
use Rattle.c_syntax.specs.Sets.{a_suffix, a_binary, a_basic_type}
use Rattle.c_syntax.specs.ExpressionReaders.{all_arms, more_arms}
use Rattle.std.proofs.lemmas.Grind.{common_steps}
use Rattle.reading.proofs.Turns.{one_turn, no_turn}
use Rattle.c_syntax.proofs.grammar.Grammar.all_arms.Goals as goal

pub loop-turn-init : goal.loop-turn-init
unfolding all_arms many
loop-turn-init g c = first_of (search rules, grind (arith, common_steps))

pub returns-then-not-is_at_mark : goal.returns-then-not-is_at_mark
unfolding go_on
returns-then-not-is_at_mark g c =
    let e = one_turn (λ n. go_on terminal_of (mark MARK_QUESTION ∷ []) (more_arms c.args.self.now.room (g.N.Inner.readers c.args.self.now.inner c.args.self.now.room)) n c.loop-turn.arms (input_from c.loop-turn.source)) _ c.loop-turn._turn c.loop-turn-test.true c.loop-turn.invariant in
    first_of (search rules, grind (arith, common_steps))

pub returns-in_err-arms : goal.returns-in_err-arms
unfolding go_on
returns-in_err-arms g c =
    let e = one_turn (λ n. go_on terminal_of (mark MARK_QUESTION ∷ []) (more_arms c.args.self.now.room (g.N.Inner.readers c.args.self.now.inner c.args.self.now.room)) n c.loop-turn.arms (input_from c.loop-turn.source)) _ c.loop-turn._turn c.loop-turn-test.true c.loop-turn.invariant in
    first_of (search rules, grind (arith, common_steps))

pub loop-turn-preserved : goal.loop-turn-preserved
unfolding go_on
loop-turn-preserved g c =
    let e = one_turn (λ n. go_on terminal_of (mark MARK_QUESTION ∷ []) (more_arms c.args.self.now.room (g.N.Inner.readers c.args.self.now.inner c.args.self.now.room)) n c.loop-turn.arms (input_from c.loop-turn.source)) _ c.loop-turn._turn c.loop-turn-test.true c.loop-turn.invariant in
    first_of (search rules, grind (arith, common_steps))

pub returns : goal.returns
unfolding go_on
returns g c =
    let e = no_turn (λ n. go_on terminal_of (mark MARK_QUESTION ∷ []) (more_arms c.args.self.now.room (g.N.Inner.readers c.args.self.now.inner c.args.self.now.room)) n c.loop-turn.arms (input_from c.loop-turn.source)) _ c.loop-turn._turn c.loop-turn-test.false c.loop-turn.invariant in
    first_of (search rules, grind (arith, common_steps))
